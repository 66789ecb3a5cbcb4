use Rattle.std.proofs.Common.{◌≡◌, ◌≤◌, ◌+◌, ◌++◌, ◌∷◌, [], ℕ, List, Ok, Err, IfSome, length, ap, sym, ◌∙◌, subst, arith}
use Rattle.std.proofs.lemmas.List.{length-append}
use Rattle.std.proofs.lemmas.Result.{err_from_is_err_and}
use Rattle.std.specs.declared.alloc.Global.{Global}
use Rattle.std.specs.declared.vec.Vec.{Vec}
use Rattle.gl_outside.proofs.Opening.{ChangesSources-trans}
use Rattle.job_io.specs.whole_files.AtomNames.{atom_name}
use Rattle.job_io.specs.whole_files.InTurn.{first_names}
use Rattle.job_io.proofs.whole_files.FilesInTurn.{hands-first, hands-last, hands-more}
use Rattle.job_io.specs.job_files.Inner.AtomsRead.{HaveAtoms}
use Rattle.job_io.proofs.job_files.AtomsTaken.{atom-before, atoms-refused, have-more}
use Rattle.job_io.proofs.job_files.atoms.read_atoms.Goals as goal

pub returns-in_err-bytes-clause-fault : goal.returns-in_err-bytes-clause-fault
returns-in_err-bytes-clause-fault g c =
    let exit = err_from_is_err_and c.from_residual.result c.from_residual.ensures.1 in
    let old = g.F.Files.state c.args.files.now in
    let mid = g.F.Files.state c.loop-a.files in
    let now = (g.F.Files.state c.read_atom.new.files).sources.faults in
    let inv = c.loop-a.invariant in
    rw (exit.1, exit.2) (atoms-refused old now c.args.prefix.now c.loop-a.a c.args.atoms c.loop-a.read.items c.in_err-bytes.field-0.0 c.loop-a-test.true inv.have
    (atom-before old mid now (first_names (atom_name c.args.prefix.now) c.loop-a.a) c.args.prefix.now c.loop-a.a (Err c.in_err-bytes.field-0.0) inv.frame inv.handed inv.later c.in_err-bytes.ensures.answer))

pub returns-in_err-bytes-clause-read : goal.returns-in_err-bytes-clause-read
returns-in_err-bytes-clause-read g c =
    let old = g.F.Files.state c.args.files.now in
    let mid = g.F.Files.state c.loop-a.files in
    let new = g.F.Files.state c.read_atom.new.files in
    let inv = c.loop-a.invariant in
    let read = c.in_err-bytes.ensures.read in
    record {
      frame = ChangesSources-trans old mid new inv.frame read.frame;
      handed = hands-last (atom_name c.args.prefix.now) c.args.atoms c.loop-a.a old.sources.names mid.sources.names new.sources.names c.loop-a-test.true inv.handed read.handed;
      later = let first = inv.later in let then = read.later in omega (arith, first, then);
    }

pub returns-in_err-push_file-clause-read : goal.returns-in_err-push_file-clause-read
returns-in_err-push_file-clause-read g c =
    let old = g.F.Files.state c.args.files.now in
    let mid = g.F.Files.state c.loop-a.files in
    let new = g.F.Files.state c.read_atom.new.files in
    let inv = c.loop-a.invariant in
    let read = c.in_ok-bytes.ensures.read in
    let inside = c.loop-a-test.true in
    record {
      frame = ChangesSources-trans old mid new inv.frame read.frame;
      handed = hands-first (atom_name c.args.prefix.now) c.args.atoms (c.loop-a.a + 1) old.sources.names new.sources.names (omega (arith, inside))
          (hands-more (atom_name c.args.prefix.now) c.loop-a.a old.sources.names mid.sources.names new.sources.names inv.handed c.in_ok-bytes.ensures.handed);
      later = let first = inv.later in let then = read.later in omega (arith, first, then);
    }

pub loop-a-preserved : goal.loop-a-preserved
loop-a-preserved g c =
    let old = g.F.Files.state c.args.files.now in
    let mid = g.F.Files.state c.loop-a.files in
    let new = g.F.Files.state c.read_atom.new.files in
    let inv = c.loop-a.invariant in
    let read = c.in_ok-bytes.ensures.read in
    let bytes = c.in_ok-bytes.bytes in
    let before = c.loop-a.read.items in
    let pushed : c.push_file.new.read.items ≡ before ++ bytes ∷ [] = c.in_ok-push_file.ensures in
    let more : length (before ++ bytes ∷ []) ≡ length before + 1 = length-append before (bytes ∷ []) in
    record {
      frame = ChangesSources-trans old mid new inv.frame read.frame;
      handed = hands-more (atom_name c.args.prefix.now) c.loop-a.a old.sources.names mid.sources.names new.sources.names inv.handed c.in_ok-bytes.ensures.handed;
      later = let first = inv.later in let then = read.later in omega (arith, first, then);
      long = ap (λ (l : List (Vec ℕ Global)). length l) pushed ∙ more ∙ ap (λ (k : ℕ). k + 1) inv.long;
      have = subst (λ (l : List (Vec ℕ Global)). IfSome old.sources.names (λ told. HaveAtoms old c.args.prefix.now (c.loop-a.a + 1) l)) (sym pushed)
          (have-more old new.sources.faults c.args.prefix.now c.loop-a.a before bytes inv.long inv.have
          (atom-before old mid new.sources.faults (first_names (atom_name c.args.prefix.now) c.loop-a.a) c.args.prefix.now c.loop-a.a (Ok bytes) inv.frame inv.handed inv.later c.in_ok-bytes.ensures.answer));
    }

pub returns-clause-read_all : goal.returns-clause-read_all
returns-clause-read_all g c =
    let old = g.F.Files.state c.args.files.now in
    let inv = c.loop-a.invariant in
    let end : c.loop-a.a ≡ c.args.atoms = let last = c.loop-a.auto.a-end in let done = c.loop-a-test.false in omega (arith, last, done) in
    subst (λ (k : ℕ). IfSome old.sources.names (λ told. HaveAtoms old c.args.prefix.now k c.loop-a.read.items)) end inv.have

pub returns-clause-read : goal.returns-clause-read
returns-clause-read g c =
    let old = g.F.Files.state c.args.files.now in
    let new = g.F.Files.state c.loop-a.files in
    let inv = c.loop-a.invariant in
    let few : c.loop-a.a ≤ c.args.atoms = let last = c.loop-a.auto.a-end in omega (arith, last) in
    record {
      frame = inv.frame;
      handed = hands-first (atom_name c.args.prefix.now) c.args.atoms c.loop-a.a old.sources.names new.sources.names few inv.handed;
      later = inv.later;
    }
