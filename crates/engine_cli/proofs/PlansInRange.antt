-- The plan of a command line is in its ranges.
use Rattle.std.proofs.Common.{◌≡◌, ◌≤◌, ◌<◌, ◌^◌, ◌||◌, ℕ, Bool, true, false, nat_lt, List, Option, None, Some, IfSome, Result, Ok, Err, cond, refl, subst, arith}
use Rattle.std.specs.Option.{option_map_or}
use Rattle.std.specs.Str.{bytes_eq}
use Rattle.std.specs.Prelude.{codes}
use Rattle.std.proofs.lemmas.Bool.{ltb-false}
use Rattle.gl_base.specs.declared.jobs.MakePlan.{MakePlan}
use Rattle.gl_base.specs.declared.limits.TheConstants.{MAX_VERTICES}
use Rattle.gl_base.specs.declared.usage_faults.Opt.TheVariants as opt
use Rattle.gl_base.specs.declared.usage_faults.UsageFault.{UsageFault}
use Rattle.gl_base.specs.declared.usage_faults.UsageFault.TheVariants as fault
use Rattle.graph_text.specs.generate.Making.{IsPlanInRange}
use Rattle.job_io.specs.job_words.CommandLine.{command_line_of, formed_means, line_means}
use Rattle.job_io.specs.job_words.Lines.{Sayings, line_of}
use Rattle.gl_base.specs.Results.{and_then}
use Rattle.job_io.specs.job_words.Meanings.{has_option, plan_in_range, make_words, meaning_of, most_edges, option_number, plan_of, option_weight}
use Rattle.gl_base.specs.Texts.{Text}
use Rattle.job_io.specs.job_words.WordForms.{word_forms, first_unformed}
use Rattle.job_io.specs.declared.job_words.words.Words.TheVariants.{Run, Resume, Make, Cut, Init}

no_fault_ok : {X : Type 0} → {f : UsageFault} → {x : X} → Err f ≡ Ok x → ⊥
no_fault_ok e = cc

same_ok : {X : Type 0} → {x y : X} → (let r : Result X UsageFault = Ok x in r) ≡ Ok y → x ≡ y
same_ok e = cc

-- a step that came to an end had a value
next-ok : {A B : Type 0} (r : Result A UsageFault) (next : A → Result B UsageFault) (y : B) → and_then r next ≡ Ok y → (x : A) × (next x ≡ Ok y)
next-ok (Ok x) next y e = (x, e)
next-ok (Err f) next y e = absurd (no_fault_ok e)

weight-small : (weight : Option ℕ) → option_map_or (nat_lt 4294967295) weight false ≡ false → IfSome weight (λ most. most < 2 ^ 32)
weight-small None e = tt
weight-small (Some most) e = let small : most ≤ 4294967295 = ltb-false 4294967295 most e in omega (arith, small)

-- numbers that pass the tests are in their ranges
in-ranges : (number vertices edges : ℕ) (weight : Option ℕ) (plan : MakePlan) → plan_in_range number vertices edges weight ≡ Ok plan → IsPlanInRange plan
in-ranges number vertices edges weight plan e =
    by_tests (nat_lt 4294967295 number) (nat_lt MAX_VERTICES vertices) (nat_lt (most_edges vertices) edges) (option_map_or (nat_lt 4294967295) weight false)
    refl refl refl refl e
  where
    given : MakePlan
    given = record { number = number; vertices = vertices; edges = edges; weight = weight }

    by_tests : (a b c d : Bool) → nat_lt 4294967295 number ≡ a → nat_lt MAX_VERTICES vertices ≡ b → nat_lt (most_edges vertices) edges ≡ c
        → option_map_or (nat_lt 4294967295) weight false ≡ d
        → cond a (Err (fault.Range opt.Number)) (cond b (Err (fault.Range opt.Vertices)) (cond c (Err (fault.Range opt.Edges)) (cond d (Err (fault.Range opt.Weight)) (Ok given)))) ≡ Ok plan
        → IsPlanInRange plan
    by_tests true b c d p q r s e = absurd (no_fault_ok e)
    by_tests false true c d p q r s e = absurd (no_fault_ok e)
    by_tests false false true d p q r s e = absurd (no_fault_ok e)
    by_tests false false false true p q r s e = absurd (no_fault_ok e)
    by_tests false false false false p q r s e =
        let small : number ≤ 4294967295 = ltb-false 4294967295 number p in
        let few : edges ≤ most_edges vertices = ltb-false (most_edges vertices) edges r in
        let ranges : IsPlanInRange given = record {
          number = omega (arith, small);
          vertices = ltb-false MAX_VERTICES vertices q;
          edges = omega (arith, few);
          offsets = omega (arith, few);
          weight = weight-small weight s;
        } in
        subst IsPlanInRange (same_ok e) ranges

plan-in-ranges : (number vertices edges weight : Option Text) (plan : MakePlan) → plan_of number vertices edges weight ≡ Ok plan → IsPlanInRange plan
plan-in-ranges (Some number) (Some vertices) (Some edges) weight plan e =
    let n = next-ok (option_number opt.Number number) _ plan e in
    let v = next-ok (option_number opt.Vertices vertices) _ plan n.1 in
    let m = next-ok (option_number opt.Edges edges) _ plan v.1 in
    let w = next-ok (option_weight weight) _ plan m.1 in
    in-ranges n.0 v.0 m.0 w.0 plan w.1
plan-in-ranges None vertices edges weight plan e = absurd (no_fault_ok e)
plan-in-ranges (Some number) None edges weight plan e = absurd (no_fault_ok e)
plan-in-ranges (Some number) (Some vertices) None weight plan e = absurd (no_fault_ok e)

make_words-in-ranges : (prefix name : Text) (r : Result MakePlan UsageFault) (plan : MakePlan) → make_words prefix r ≡ Ok (Make name plan) → r ≡ Ok plan
make_words-in-ranges prefix name (Ok given) plan e = cc
make_words-in-ranges prefix name (Err f) plan e = absurd (no_fault_ok e)

meaning-in-ranges : (s : Sayings) (name : Text) (plan : MakePlan) → meaning_of s ≡ Ok (Make name plan) → IsPlanInRange plan
meaning-in-ranges s name plan e =
    by_tests (bytes_eq s.verb (codes "run")) (bytes_eq s.verb (codes "resume")) (bytes_eq s.verb (codes "make")) (bytes_eq s.verb (codes "cut")) (bytes_eq s.verb (codes "init")) (has_option s) s.report (s.report || has_option s) e
  where
    by_tests : (a r b k i c d f : Bool)
        → cond a (cond c (Err fault.NotHere) (Ok (Run s.file s.report)))
        (cond r (cond c (Err fault.NotHere) (Ok (Resume s.file s.report)))
        (cond b (cond d (Err fault.NotHere) (make_words s.file (plan_of s.number s.vertices s.edges s.weight)))
        (cond k (cond f (Err fault.NotHere) (Ok (Cut s.file)))
        (cond i (cond f (Err fault.NotHere) (Ok (Init s.file))) (Err fault.Verb))))) ≡ Ok (Make name plan)
        → IsPlanInRange plan
    by_tests true r b k i true d f e = absurd (no_fault_ok e)
    by_tests true r b k i false d f e = absurd cc
    by_tests false true b k i true d f e = absurd (no_fault_ok e)
    by_tests false true b k i false d f e = absurd cc
    by_tests false false true k i c true f e = absurd (no_fault_ok e)
    by_tests false false true k i c false f e =
        plan-in-ranges s.number s.vertices s.edges s.weight plan (make_words-in-ranges s.file name (plan_of s.number s.vertices s.edges s.weight) plan e)
    by_tests false false false true i c d true e = absurd (no_fault_ok e)
    by_tests false false false true i c d false e = absurd cc
    by_tests false false false false true c d true e = absurd (no_fault_ok e)
    by_tests false false false false true c d false e = absurd cc
    by_tests false false false false false c d f e = absurd (no_fault_ok e)

-- the plan of a command line is in its ranges
pub asked-in-ranges : (words : List Text) (name : Text) (plan : MakePlan) → command_line_of words ≡ Ok (Make name plan) → IsPlanInRange plan
asked-in-ranges words name plan e = formed (first_unformed words) e
  where
    lined : (l : Option Sayings) → line_means l ≡ Ok (Make name plan) → IsPlanInRange plan
    lined None e = absurd (no_fault_ok e)
    lined (Some s) e = meaning-in-ranges s name plan e

    formed : (place : Option ℕ) → formed_means place words ≡ Ok (Make name plan) → IsPlanInRange plan
    formed None e = lined (line_of (word_forms words)) e
    formed (Some place) e = absurd (no_fault_ok e)
