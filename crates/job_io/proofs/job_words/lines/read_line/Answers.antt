-- The command takes exactly the lines of the definition, and its matches say what they say.
use Rattle.std.proofs.Common.{◌≡◌, ◌∙◌, Err, None, Some, ap, codes, is_some, sym, true, true≢false}
use Rattle.clap.specs.Words.{app_of, found_of, kind_of, rows_of}
use Rattle.clap.proofs.WalkLemmas.{first_value-rows, one_text-rows}
use Rattle.gl_base.specs.declared.memory.OrNoMemory.TheVariants.{NoMemory}
use Rattle.gl_base.specs.declared.usage_faults.UsageFault.TheVariants as fault
use Rattle.job_io.specs.job_words.CommandLine.{line_means}
use Rattle.job_io.specs.job_words.Lines.{line_of}
use Rattle.job_io.specs.job_words.WordForms.{texts}
use Rattle.job_io.proofs.job_words.ClapSaid.{absent, flag_is, refused_at, some_first, taken_at}
use Rattle.job_io.proofs.job_words.lines.read_line.Goals as goal
use Rattle.job_io.proofs.job_words.lines.read_line.Goals.{in_default-via-in-Some+in_default, in_default-via-in_default}

pub returns-in-Some-Some-clause-ok : goal.returns-in-Some-Some-clause-ok
returns-in-Some-Some-clause-ok c = λ ts spells.
    let found = found_of c.in-Ok.matches in
    let taken = taken_at ts (texts c.args.words.now) spells (app_of c.in_ok-command.field-0) c.in_ok-command.ensures (rows_of found)
    c.in-Ok.ensures.kinds (λ simple. (c.in-Ok.ensures.matches simple).0) in
    taken.0 ∙ ap Some (λ i. record {
      verb = some_first c.get_str.result c.in-Some-Some.verb _ c.in-Some-Some.is-0 (c.get_str.ensures ∙ first_value-rows found (codes "verb")) i;
      file = some_first c.get_str-2.result c.in-Some-Some.file _ c.in-Some-Some.is-1 (c.get_str-2.ensures ∙ first_value-rows found (codes "file")) i;
      report = flag_is c.get_flag.result _ (λ e. c.get_flag.ensures.value (one_text-rows found (codes "report") ∙ e))
          (λ e. c.get_flag.ensures.other (one_text-rows found (codes "report") ∙ e)) taken.1.flag i;
      number = sym (c.get_str-in-Some-Some.ensures ∙ first_value-rows found (codes "number")) i;
      vertices = sym (c.get_str-in-Some-Some-2.ensures ∙ first_value-rows found (codes "vertices")) i;
      edges = sym (c.get_str-in-Some-Some-3.ensures ∙ first_value-rows found (codes "edges")) i;
      weight = sym (c.get_str-in-Some-Some-4.ensures ∙ first_value-rows found (codes "weight")) i;
    })

pub returns-in-Err-clause-fault : goal.returns-in-Err-clause-fault
returns-in-Err-clause-fault c = λ ts f spells is.
    let none : line_of ts ≡ None = refused_at ts (texts c.args.words.now) spells (app_of c.in_ok-command.field-0) c.in_ok-command.ensures (kind_of c.in-Err.error)
    (λ memory.
    let full : c.fault_of.result ≡ NoMemory = c.fault_of.ensures.memory memory in
    cc) c.in-Err.ensures.kinds in
    let line : fault.Line ≡ f = c.fault_of.ensures.line f cc in
    ap line_means none ∙ ap Err line

pub returns-clause-fault : goal.returns-clause-fault
returns-clause-fault c = λ ts f spells _.
    let found = found_of c.in-Ok.matches in
    let taken = taken_at ts (texts c.args.words.now) spells (app_of c.in_ok-command.field-0) c.in_ok-command.ensures (rows_of found)
    c.in-Ok.ensures.kinds (λ simple. (c.in-Ok.ensures.matches simple).0) in
    let verb : is_some c.get_str.result ≡ true = absent c.get_str.result _ (c.get_str.ensures ∙ first_value-rows found (codes "verb")) taken.1.verb in
    let file : is_some c.get_str-2.result ≡ true = absent c.get_str-2.result _ (c.get_str-2.ensures ∙ first_value-rows found (codes "file")) taken.1.file in
    elim c.in_default.branch [
      | in_default-via-in-Some+in_default w ↦ absurd (true≢false (sym file ∙ ap is_some w.in_default.is-1))
      | in_default-via-in_default w ↦ absurd (true≢false (sym verb ∙ ap is_some w.in_default.is-0))
    ]
