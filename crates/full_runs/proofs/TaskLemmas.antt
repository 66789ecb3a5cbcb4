-- Whom an update wakes, along half-edges.
use Rattle.std.proofs.Common.{◌≡◌, ℕ, ◌<◌, ◌==◌, ◌&&◌, ◌||◌, Bool, true, false, List, [], ◌∷◌, length, map, refl, sym, ◌∙◌, ap, subst, ⊎_elim, true≢false, arith}
use Rattle.std.specs.List.{All, AllByRecursion}
use Rattle.std.proofs.lemmas.Bool.{cases_lt}
use Rattle.std.proofs.lemmas.List.{get_or_past}
use Rattle.graph_core.specs.declared.halves.Half.{Half}
use Rattle.graph_core.specs.DataGraph.{DataGraph, IsDataGraph, size}
use Rattle.graph_core.specs.HalfRows.{data_half}
use Rattle.graph_core.specs.Halves.{DataHalf, halves_of}
use Rattle.graph_core.proofs.HalvesLaws.{IsHalfAt, each-weaker, half_other, halves_are}
use Rattle.seq_run.proofs.EachOf.{each_is}
use Rattle.seq_run.proofs.Neighbours.{each-unmap}
use Rattle.seq_run.specs.States.{is_woken}
use Rattle.task_sets.specs.vertex_queue.Flags.{is_flagged}
use Rattle.update_api.specs.declared.woken.Woken.{Woken}
use Rattle.update_api.specs.declared.woken.Woken.TheVariants.{Ahead, Around, Nobody}
use Rattle.full_runs.specs.Inner.SoFar.{is_woken_by}

-- they are those of the half-edges of the graph
pub woken_by_is : (woken : Woken) (halves : List Half) (u : ℕ) → is_woken_by woken halves u ≡ is_woken woken (map data_half halves) u
woken_by_is Nobody [] u = refl
woken_by_is Nobody (h ∷ halves) u = woken_by_is Nobody halves u
woken_by_is Ahead [] u = refl
woken_by_is Ahead (h ∷ halves) u = ap (λ b. (h.out && h.other.0 == u) || b) (woken_by_is Ahead halves u)
woken_by_is Around [] u = refl
woken_by_is Around (h ∷ halves) u = ap (λ b. (h.other.0 == u) || b) (woken_by_is Around halves u)

-- a vertex with a flag is one of the list
pub flagged_low : (flags : List Bool) (u : ℕ) → is_flagged flags u ≡ true → u < length flags
flagged_low flags u flagged = ⊎_elim
    (λ (low : u < length flags). low)
    (λ past. absurd (true≢false (sym flagged ∙ get_or_past flags u false (omega (arith, past)))))
    (cases_lt u (length flags))

-- the other ends of half-edges are vertices
pub ends_low : (g : DataGraph) → IsDataGraph g → (v : ℕ) (halves : List Half) → map data_half halves ≡ halves_of g v → (n : ℕ) → n ≡ size g → All (λ (h : Half). h.other.0 < n) halves
ends_low g is v halves same n count =
    each_is (λ (h : Half). h.other.0 < n) halves
    (each-unmap (λ (d : DataHalf). d.other < n) data_half halves
    (subst (AllByRecursion (λ (d : DataHalf). d.other < n)) (sym same)
    (each-weaker (IsHalfAt g is v) (λ (d : DataHalf). d.other < n) (λ d half. let low = (half_other g is v d half).0 in omega (arith, low, count)) (halves_of g v) (halves_are g is v))))
