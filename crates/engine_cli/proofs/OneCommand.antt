-- Words are one command line at most.
use Rattle.std.proofs.Common.{◌≡◌, List, Result, Ok, Err, sym, ◌∙◌}
use Rattle.gl_base.specs.declared.usage_faults.UsageFault.{UsageFault}
use Rattle.job_io.specs.job_words.CommandLine.{command_line_of}
use Rattle.gl_base.specs.Texts.{Text}
use Rattle.job_io.specs.declared.job_words.words.Words.{Words}

pub one_command : (words : List Text) (a b : Words) → command_line_of words ≡ Ok a → command_line_of words ≡ Ok b → a ≡ b
one_command words a b p q = same_ok (sym p ∙ q)
  where
    same_ok : {E : Type 0} → {x y : Words} → (let r : Result Words E = Ok x in r) ≡ Ok y → x ≡ y
    same_ok e = cc

pub no_command : (words : List Text) (a : Words) (fault : UsageFault) → command_line_of words ≡ Ok a → command_line_of words ≡ Err fault → ⊥
no_command words a fault p q = contradicts (sym p ∙ q)
  where
    contradicts : {X E : Type 0} → {x : X} → {e : E} → Ok x ≡ Err e → ⊥
    contradicts e = cc
