-- The files of a cut, written one after another.
use Rattle.std.proofs.Common.{◌≡◌, ◌<◌, ◌≤◌, ◌+◌, ◌^◌, ◌⊎◌, inl, inr, ℕ, zero, suc, List, [], ◌∷◌, length, take, Option, None, Some, IfSome, Result, Ok, Err, IfErr, refl, sym, ap, ◌∙◌, subst, arith}
use Rattle.gl_base.specs.declared.atoms.Lines.{Lines}
use Rattle.std.specs.Prelude.{slice_index_or}
use Rattle.gl_outside.specs.Faults.{Rose}
use Rattle.gl_outside.specs.FilesState.{FilesState}
use Rattle.gl_outside.specs.Names.{AppendsNames}
use Rattle.graph_core.specs.DataGraph.{DataGraph, IsDataGraph}
use Rattle.graph_text.specs.declared.generate.making.Writing.{Writing}
use Rattle.graph_text.specs.declared.generate.making.Writing.TheVariants as out
use Rattle.graph_atoms.specs.atom_file.Atoms.{IsAtom, atom_bytes, atom_of}
use Rattle.graph_atoms.specs.atom_cut.Atoms.{AreAtoms}
use Rattle.graph_atoms.specs.atom_cut.Index.{index_bytes}
use Rattle.graph_atoms.proofs.atom_cut.RangeLemmas.{graph_atom-is}
use Rattle.job_io.specs.whole_files.AtomNames.{atom_name, cut_name, cut_names, index_name}
use Rattle.job_io.specs.whole_files.FilesUsed.{WritesFiles}
use Rattle.job_io.specs.whole_files.InTurn.{LeavesFiles, LeavesFronts, WroteFiles, first_names}
use Rattle.job_io.specs.whole_files.Leaves.{KeepsOrGives}
use Rattle.job_io.proofs.whole_files.CutNames.{cut-names-apart}
use Rattle.job_io.proofs.whole_files.FilesInTurn.{wrote-fronts, wrote-more, wrote-none, wrote-stops}
use Rattle.job_io.specs.graph_files.Cuts.{cut_text}
use Rattle.job_io.specs.graph_files.Inner.GoingOn.{AreEachAtoms, GoesOnWriting, HaveLines, LeavesAtMostFronts}
use Rattle.job_io.specs.graph_files.Made.{IsFault}

-- the files of a cut have names of their own
pub apart : (prefix : List ℕ) (n : ℕ) → n ≤ 2048 → (i j : ℕ) → i < n → j < n → cut_name prefix i ≡ cut_name prefix j → i ≡ j
apart prefix n few i j first second same = cut-names-apart prefix i j (omega (arith, few, first)) (omega (arith, few, second)) same

-- the lines of a graph's atoms are those of its cut's files
pub have-lines : (g : DataGraph) (of : List ℕ) (atoms : ℕ) (lines : List Lines) → AreAtoms g of atoms lines → HaveLines (cut_text g of atoms) lines
have-lines g of atoms lines are a d inside =
    let under : a < atoms = omega (arith, inside, are.count) in
    ap atom_bytes (sym (are.each a d under))

-- and each is an atom
pub each-atoms : (g : DataGraph) (of : List ℕ) (atoms : ℕ) (lines : List Lines) → IsDataGraph g → AreAtoms g of atoms lines → AreEachAtoms lines
each-atoms g of atoms lines is are a d inside =
    let under : a < atoms = omega (arith, inside, are.count) in
    subst IsAtom (sym (are.each a d under)) (graph_atom-is g of a is)

-- the cause of a fault of writing
pub fault-of : (r : Result (Unit {0}) Writing) (before now : ℕ) → (r ≡ Err out.WriteFault → Rose before now) → IfErr r (λ why. IsFault why before now)
fault-of (Ok done) before now rose = tt
fault-of (Err out.WriteFault) before now rose = rose refl
fault-of (Err out.NoMemory) before now rose = tt

-- and of one that comes later
pub fault-later : (r : Result (Unit {0}) Writing) (a b c : ℕ) → a ≤ b → IfErr r (λ why. IsFault why b c) → IfErr r (λ why. IsFault why a c)
fault-later (Ok done) a b c later fault = tt
fault-later (Err out.WriteFault) a b c later fault = λ many. let now = fault (omega (arith, many, later)) in omega (arith, now, later)
fault-later (Err out.NoMemory) a b c later fault = tt

pub why-later : (why : Writing) (a b c : ℕ) → a ≤ b → IsFault why b c → IsFault why a c
why-later why a b c later fault = fault-later (Err why) a b c later fault

module _ (prefix : List ℕ) (text : ℕ → List ℕ) (lines : List Lines) (few : length lines ≤ 1024) where
  abbrev pub Wrote : ℕ → FilesState → FilesState → Type 0
  Wrote count old new = WroteFiles (cut_name prefix) text (length lines + 1) count old new

  one : (i j : ℕ) → i < length lines + 1 → j < length lines + 1 → cut_name prefix i ≡ cut_name prefix j → i ≡ j
  one = apart prefix (length lines + 1) (omega (arith, few))

  -- one atom more was written
  pub more-atoms : (old mid new : FilesState) (a : ℕ) (x d : Lines) → x ≡ slice_index_or lines a d → a < length lines → HaveLines text lines → Wrote (a + 1) old mid → WritesFiles (atom_name prefix a ∷ []) mid new
      → AppendsNames mid.sinks.names new.sinks.names (atom_name prefix a ∷ [])
      → IfSome mid.sinks.names (λ names. new.contents (atom_name prefix a) ≡ Some (atom_bytes (atom_of a x))) → Wrote (a + 1 + 1) old new
  more-atoms old mid new a x d at inside have w wrote handed gives =
      let same : suc a ≡ a + 1 = omega arith in
      let T : ℕ → Type 0 = λ k. Wrote (k + 1) old new in
      let W : ℕ → Type 0 = λ k. Wrote k old mid in
      subst T same
      (wrote-more (cut_name prefix) text (length lines + 1) one old mid new (suc a) (omega (arith, inside)) (subst W (sym same) w) wrote handed
      (subst (λ (t : List ℕ). IfSome mid.sinks.names (λ names. new.contents (atom_name prefix a) ≡ Some t)) (ap (λ (l : Lines). atom_bytes (atom_of a l)) at ∙ sym (have a d inside)) gives))

  -- an atom was not written to its end
  pub stops-at : (old mid new : FilesState) (a : ℕ) (x d : Lines) → x ≡ slice_index_or lines a d → a < length lines → HaveLines text lines → Wrote (a + 1) old mid → WritesFiles (atom_name prefix a ∷ []) mid new
      → KeepsOrGives mid.sinks.names (mid.contents (atom_name prefix a)) (new.contents (atom_name prefix a)) (λ held. (count : ℕ) × (held ≡ take count (atom_bytes (atom_of a x))))
      → WritesFiles (first_names (cut_name prefix) (length lines + 1)) old new × LeavesFronts (cut_name prefix) text (length lines + 1) old new
  stops-at old mid new a x d at inside have w wrote front =
      let same : suc a ≡ a + 1 = omega arith in
      let W : ℕ → Type 0 = λ k. Wrote k old mid in
      wrote-stops (cut_name prefix) text (length lines + 1) one old mid new (suc a) (omega (arith, inside)) (subst W (sym same) w) wrote
      (subst (λ (t : List ℕ). KeepsOrGives mid.sinks.names (mid.contents (atom_name prefix a)) (new.contents (atom_name prefix a)) (λ held. (count : ℕ) × (held ≡ take count t))) (ap (λ (l : Lines). atom_bytes (atom_of a l)) at ∙ sym (have a d inside)) front)

  -- what was written so far has fronts at most
  pub fronts-so-far : (old new : FilesState) (count : ℕ) → Wrote count old new
      → WritesFiles (first_names (cut_name prefix) (length lines + 1)) old new × LeavesFronts (cut_name prefix) text (length lines + 1) old new
  fronts-so-far old new count w = (w.wrote, wrote-fronts (cut_name prefix) text (length lines + 1) one old new count w)

  -- the index was written
  pub index-written : (old new : FilesState) (opened : List ℕ) → opened ≡ index_name prefix → WritesFiles (opened ∷ []) old new
      → AppendsNames old.sinks.names new.sinks.names (opened ∷ []) → IfSome old.sinks.names (λ names. new.contents opened ≡ Some (text 0)) → Wrote 1 old new
  index-written old new opened named wrote handed gives =
      wrote-more (cut_name prefix) text (length lines + 1) one old old new 0 (omega arith) (wrote-none (cut_name prefix) text (length lines + 1) one old)
      (subst (λ (n : List ℕ). WritesFiles (n ∷ []) old new) named wrote) (subst (λ (n : List ℕ). AppendsNames old.sinks.names new.sinks.names (n ∷ [])) named handed)
      (subst (λ (n : List ℕ). IfSome old.sinks.names (λ names. new.contents n ≡ Some (text 0))) named gives)

  -- or not to its end
  pub index-stops : (old new : FilesState) (opened : List ℕ) → opened ≡ index_name prefix → WritesFiles (opened ∷ []) old new
      → KeepsOrGives old.sinks.names (old.contents opened) (new.contents opened) (λ held. (count : ℕ) × (held ≡ take count (text 0)))
      → WritesFiles (first_names (cut_name prefix) (length lines + 1)) old new × LeavesFronts (cut_name prefix) text (length lines + 1) old new
  index-stops old new opened named wrote front =
      wrote-stops (cut_name prefix) text (length lines + 1) one old old new 0 (omega arith) (wrote-none (cut_name prefix) text (length lines + 1) one old)
      (subst (λ (n : List ℕ). WritesFiles (n ∷ []) old new) named wrote)
      (subst (λ (n : List ℕ). KeepsOrGives old.sinks.names (old.contents n) (new.contents n) (λ held. (count : ℕ) × (held ≡ take count (text 0)))) named front)

-- the same of the lines of a cut
module _ (prefix : List ℕ) (g : DataGraph) (of : List ℕ) (atoms : ℕ) (lines : List Lines) (are : AreAtoms g of atoms lines) (low : atoms ≤ 1024) where
  abbrev pub text : ℕ → List ℕ
  text = cut_text g of atoms

  few : length lines ≤ 1024
  few = let count = are.count in omega (arith, count, low)

  counted : (old new : FilesState) → WritesFiles (first_names (cut_name prefix) (length lines + 1)) old new × LeavesFronts (cut_name prefix) text (length lines + 1) old new
      → WritesFiles (cut_names prefix atoms) old new × LeavesFronts (cut_name prefix) text (atoms + 1) old new
  counted old new h =
      subst (λ (n : ℕ). WritesFiles (first_names (cut_name prefix) (n + 1)) old new × LeavesFronts (cut_name prefix) text (n + 1) old new) are.count h

  pub cut-index-written : (old new : FilesState) (opened bytes : List ℕ) → opened ≡ index_name prefix → bytes ≡ index_bytes g of atoms → WritesFiles (opened ∷ []) old new
      → AppendsNames old.sinks.names new.sinks.names (opened ∷ []) → IfSome old.sinks.names (λ names. new.contents opened ≡ Some bytes)
      → WroteFiles (cut_name prefix) text (length lines + 1) 1 old new
  cut-index-written old new opened bytes named is wrote handed gives =
      index-written prefix text lines few old new opened named wrote handed
      (subst (λ (b : List ℕ). IfSome old.sinks.names (λ names. new.contents opened ≡ Some b)) is gives)

  pub cut-index-stops : (old new : FilesState) (opened bytes : List ℕ) → opened ≡ index_name prefix → bytes ≡ index_bytes g of atoms → WritesFiles (opened ∷ []) old new
      → KeepsOrGives old.sinks.names (old.contents opened) (new.contents opened) (λ held. (count : ℕ) × (held ≡ take count bytes))
      → WritesFiles (cut_names prefix atoms) old new × LeavesFronts (cut_name prefix) text (atoms + 1) old new
  cut-index-stops old new opened bytes named is wrote front =
      counted old new
      (index-stops prefix text lines few old new opened named wrote
      (subst (λ (b : List ℕ). KeepsOrGives old.sinks.names (old.contents opened) (new.contents opened) (λ held. (count : ℕ) × (held ≡ take count b))) is front))

  pub cut-fronts : (old mid new : FilesState) → WroteFiles (cut_name prefix) text (length lines + 1) 1 old mid → LeavesAtMostFronts prefix lines mid new
      → WritesFiles (cut_names prefix atoms) old new × LeavesFronts (cut_name prefix) text (atoms + 1) old new
  cut-fronts old mid new w fronts = counted old new (fronts text old (have-lines g of atoms lines are) w)

  pub cut-written : (old mid new : FilesState) → WroteFiles (cut_name prefix) text (length lines + 1) 1 old mid → GoesOnWriting prefix lines (length lines + 1) mid new
      → LeavesFiles (cut_name prefix) text (atoms + 1) old new
  cut-written old mid new w goes =
      subst (λ (n : ℕ). LeavesFiles (cut_name prefix) text (n + 1) old new) are.count (goes text old (have-lines g of atoms lines are) w).given
