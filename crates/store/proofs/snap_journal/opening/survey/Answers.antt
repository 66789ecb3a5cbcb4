use Rattle.std.proofs.Common.{rules, true, false, List, ◌∷◌, ◌++◌, ◌≡◌, ℕ, ◌+◌, ◌<◌, ◌≤◌, [], length, take, None, sym, ap, ◌∙◌, subst, arith, length-take}
use Rattle.std.proofs.lemmas.Result.{err_from_is_err_and}
use Rattle.gl_base.specs.declared.entries.Entry.{Entry}
use Rattle.gl_outside.specs.Disk.{DiskPast}
use Rattle.store.specs.store_format.Headers.{store_header_fault}
use Rattle.std.specs.declared.vec.Vec.{Vec}
use Rattle.std.specs.declared.alloc.Global.{Global}
use Rattle.store.proofs.store_format.NumberLemmas.{body_sections}
use Rattle.store.specs.snap_journal.Inner.Found.{entries_kept}
use Rattle.store.proofs.snap_journal.SurveyLemmas.{ReadSoFar, read_none, read_more, read_all, entries_all, last_of_all, ends_here, goes_on_here, why_not_opened}
use Rattle.store.proofs.snap_journal.opening.survey.Goals as goal

pub records-init : goal.records-init
records-init g c =
    let past = g.D.Disk.past in
    let front = c.in_ok-front.front.items in
    let whole : 64 ≤ length front = search rules in
    record {
      read = λ told.
          let seen = (past c.args.disk.now).now.seen in
          let bytes : front ≡ take 64 seen = c.in_ok-front.ensures.bytes told ∙ ap (λ (p : DiskPast). take 64 p.now.seen) (c.in_ok-len.ensures.past told) in
          let none : store_header_fault c.args.header.now front ≡ None = search rules in
          subst (λ (e : List Entry). ReadSoFar c.args.header.now seen 0 64 c.args.keep e c.new-body.result.items) (sym c.new-entries.ensures.items)
          (subst (λ (b : List ℕ). ReadSoFar c.args.header.now seen 0 64 c.args.keep [] b) (sym c.new-body.ensures.items)
          (read_none c.args.header.now seen c.args.keep (ap (store_header_fault c.args.header.now) (sym bytes) ∙ none)));
      form = λ some. absurd (omega arith);
      len = c.in_ok-len.ensures.length;
      past = λ told. c.in_ok-front.ensures.past told ∙ c.in_ok-len.ensures.past told;
      same = g.met.D.Disk.same_trans _ _ _ c.in_ok-len.ensures.same c.in_ok-front.ensures.same;
      later = omega (arith, c.in_ok-len.ensures.counts.later, c.in_ok-front.ensures.later);
      numbers = omega arith;
      inside = λ told.
          let seen = (past c.args.disk.now).now.seen in
          let bytes : front ≡ take 64 seen = c.in_ok-front.ensures.bytes told ∙ ap (λ (p : DiskPast). take 64 p.now.seen) (c.in_ok-len.ensures.past told) in
          omega (arith, whole, ap (length {A = ℕ}) bytes, length-take 64 seen, c.in_ok-len.ensures.length told);
    }

pub returns-in_err-more-clause-fault : goal.returns-in_err-more-clause-fault
returns-in_err-more-clause-fault g c =
    let so_far = c.records.invariant in
    let exit = err_from_is_err_and c.from_residual-in_err-more.result c.from_residual-in_err-more.ensures.1 in
    rw (exit.1, exit.2) (why_not_opened _ c.args.header.now (g.D.Disk.past c.args.disk.now).now.seen (g.D.Disk.past c.records.disk).now.seen c.records.count c.records.gate _ _ _ c.args.keep c.records.entries.items c.records.body.items _
    (λ told. ap (λ (p : DiskPast). p.now.seen) (so_far.past told)) so_far.read so_far.later c.in_err-more.ensures.fault)

pub returns-in_err-more-clause-same : goal.returns-in_err-more-clause-same
returns-in_err-more-clause-same g c = g.met.D.Disk.same_trans _ _ _ c.records.invariant.same c.in_err-more.ensures.same

pub returns-then-not-more-clause-found : goal.returns-then-not-more-clause-found
returns-then-not-more-clause-found g c = λ told.
    let so_far = c.records.invariant in
    let header = c.args.header.now in
    let count = c.records.count in
    let gate = c.records.gate in
    let seen = (g.D.Disk.past c.args.disk.now).now.seen in
    let here = (g.D.Disk.past c.records.disk).now.seen in
    let closed : c.in_ok-more.more ≡ false = search rules in
    let ends = ends_here header (count + 1) gate seen here c.next_body.new.body.items c.in_ok-more.more (ap (λ (p : DiskPast). p.now.seen) (so_far.past told)) (c.in_ok-more.ensures.next told) closed in
    read_all header seen count gate c.args.keep c.records.entries.items c.records.body.items (so_far.read told) ends

pub returns-then-not-more-clause-entries : goal.returns-then-not-more-clause-entries
returns-then-not-more-clause-entries g c = λ told.
    let so_far = c.records.invariant in
    let header = c.args.header.now in
    let count = c.records.count in
    let gate = c.records.gate in
    let seen = (g.D.Disk.past c.args.disk.now).now.seen in
    let here = (g.D.Disk.past c.records.disk).now.seen in
    let closed : c.in_ok-more.more ≡ false = search rules in
    let ends = ends_here header (count + 1) gate seen here c.next_body.new.body.items c.in_ok-more.more (ap (λ (p : DiskPast). p.now.seen) (so_far.past told)) (c.in_ok-more.ensures.next told) closed in
    entries_all header seen count gate c.args.keep c.records.entries.items c.records.body.items (so_far.read told) ends

pub returns-then-not-more-clause-body : goal.returns-then-not-more-clause-body
returns-then-not-more-clause-body g c = λ told.
    let so_far = c.records.invariant in
    let header = c.args.header.now in
    let count = c.records.count in
    let gate = c.records.gate in
    let seen = (g.D.Disk.past c.args.disk.now).now.seen in
    let here = (g.D.Disk.past c.records.disk).now.seen in
    let closed : c.in_ok-more.more ≡ false = search rules in
    let ends = ends_here header (count + 1) gate seen here c.next_body.new.body.items c.in_ok-more.more (ap (λ (p : DiskPast). p.now.seen) (so_far.past told)) (c.in_ok-more.ensures.next told) closed in
    ap (λ (v : Vec ℕ Global). v.items) (c.in_ok-more.ensures.kept closed)
    ∙ last_of_all header seen count gate c.args.keep c.records.entries.items c.records.body.items (so_far.read told) ends

pub returns-then-not-more-clause-same : goal.returns-then-not-more-clause-same
returns-then-not-more-clause-same g c = g.met.D.Disk.same_trans _ _ _ c.records.invariant.same c.in_ok-more.ensures.same

pub returns-in_err-keep_entries-clause-same : goal.returns-in_err-keep_entries-clause-same
returns-in_err-keep_entries-clause-same g c = g.met.D.Disk.same_trans _ _ _ c.records.invariant.same c.in_ok-more.ensures.same

pub records-preserved : goal.records-preserved
records-preserved g c =
    let so_far = c.records.invariant in
    let header = c.args.header.now in
    let count = c.records.count in
    let gate = c.records.gate in
    let body = c.next_body.new.body.items in
    let opened : c.in_ok-more.more ≡ true = search rules in
    let size : c.len-in-records.result ≡ length body = search rules in
    let numbers : count + 1 < 4294967295 = c.in_ok-more.ensures.numbers opened in
    let ascends : gate + 10 + length body ≤ c.in_ok-len.len = c.in_ok-more.ensures.ascends opened in
    record {
      read = λ told.
          let seen = (g.D.Disk.past c.args.disk.now).now.seen in
          let here = (g.D.Disk.past c.records.disk).now.seen in
          let next = goes_on_here header (count + 1) gate seen here body c.in_ok-more.more (ap (λ (p : DiskPast). p.now.seen) (so_far.past told)) (c.in_ok-more.ensures.next told) opened in
          let added : c.keep_entries.new.entries.items ≡ c.records.entries.items ++ entries_kept c.args.keep (body ∷ []) =
          c.in_ok-keep_entries.ensures ∙ ap (λ (l : List ℕ). c.records.entries.items ++ entries_kept c.args.keep (l ∷ [])) c.deref-in-records.ensures.value in
          rw (size) (read_more header seen count gate c.args.keep c.records.entries.items c.records.body.items (so_far.read told) c.keep_entries.new.entries.items body next added);
      form = λ some. body_sections header (count + 1) body (c.in_ok-more.ensures.form opened);
      len = so_far.len;
      past = λ told. c.in_ok-more.ensures.past told ∙ so_far.past told;
      same = g.met.D.Disk.same_trans _ _ _ so_far.same c.in_ok-more.ensures.same;
      later = omega (arith, so_far.later, c.in_ok-more.ensures.later);
      numbers = numbers;
      inside = λ told. omega (arith, ascends, size);
    }
