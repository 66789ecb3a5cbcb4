-- The numbers that a finished run leaves.
use Rattle.std.proofs.Common.{◌≡◌, ◌≢◌, ◌<◌, ℕ, List, get_or, slice_index, Option, Some, sym, ap, ◌∙◌, subst}
use Rattle.std.proofs.lemmas.List.Elements.{All-get_or, All-from_get_or}
use Rattle.gl_base.specs.declared.entries.Entry.{Entry}
use Rattle.gl_base.specs.declared.jobs.Algorithm.{Algorithm}
use Rattle.gl_base.specs.declared.jobs.Algorithm.TheVariants.{Levels, Components, Paths, Colours, Cores, Pairs}
use Rattle.graph_core.specs.Colourings.{IsProperColouring}
use Rattle.graph_core.specs.Components.{IsComponentLabel}
use Rattle.graph_core.specs.DataGraph.{DataGraph, DataEdge, IsDataGraph, IsEdge, size}
use Rattle.graph_core.specs.Levels.{IsDistanceOrInf, IsLevelOrInf}
use Rattle.seq_run.specs.Orders.{IsFinished, IsValidOrder, replay}
use Rattle.seq_run.specs.Runs.{AreNumbers}
use Rattle.seq_run.proofs.LevelsAndPaths.{levels_at_rest, paths_at_rest}
use Rattle.seq_run.proofs.Labels.{components_at_rest}
use Rattle.seq_run.proofs.Colours.{colours_at_rest}
use Rattle.seq_run.proofs.Cores.{cores_at_rest}
use Rattle.seq_run.specs.CoreNumbers.{IsCoreNumber}
use Rattle.update_api.specs.Updates.{Update, update_of_levels, update_of_paths}
use Rattle.gl_base.specs.Lists.{AreEach}
use Rattle.engine_cli.specs.Plays.{AreResults, RunsByScopes, source_id, update_of}
use Rattle.job_io.specs.job_files.JobTexts.{HasStart, IsVertexOf}

-- what holds of each number of the replay holds of the numbers that were kept
each-of : (g : DataGraph) (number : ℕ → ℕ) (holds : ℕ → ℕ → Type 0) (numbers : List ℕ) → AreNumbers (size g) number numbers
    → ((v : ℕ) → v < size g → holds v (number v)) → AreEach (size g) holds numbers
each-of g number holds numbers are all =
    record {
      count = are.count;
      each = λ v inside. subst (holds v) (sym (are.each v inside)) (all v inside);
    }

-- kept colours are a proper colouring as the replayed ones are
colouring-of : (g : DataGraph) (colour : ℕ → ℕ) (numbers : List ℕ) → IsDataGraph g → AreNumbers (size g) colour numbers
    → IsProperColouring g colour → IsProperColouring g (slice_index numbers)
colouring-of g colour numbers is are proper =
    let none : DataEdge = record { from = 0; to = 0; weight = 0 } in
    record {
      apart = All-from_get_or (λ e. slice_index numbers e.from ≢ slice_index numbers e.to) g.edges none (λ k inside.
          let e : IsEdge (size g) g.directed (get_or g.edges k none) = All-get_or (λ e. IsEdge (size g) g.directed e) g.edges k none inside is.edges in
          λ same. All-get_or (λ e. colour e.from ≢ colour e.to) g.edges k none inside proper.apart
          (sym (are.each (get_or g.edges k none).from e.from) ∙ same ∙ are.each (get_or g.edges k none).to e.to));
      low = λ v inside. rw (are.each v inside) (proper.low v inside);
      high = λ v inside. rw (are.each v inside) (proper.high v inside);
    }

-- the source of levels and paths, as its vertex names it
pub named : (f : ℕ → Update) (g : DataGraph) (source : Option ℕ) (start id : ℕ) → source ≡ Some id → IsVertexOf g start id
    → f (source_id source) ≡ f (slice_index g.ids start)
named f g source start id asked there = ap f (ap source_id asked ∙ sym there.is)

pub results-of : (algorithm : Algorithm) (source : Option ℕ) (g : DataGraph) (order : List Entry) (numbers : List ℕ) → IsDataGraph g
    → HasStart algorithm source g → RunsByScopes algorithm g → IsValidOrder g (update_of algorithm source) order → AreNumbers (size g) (replay g (update_of algorithm source) order).vertex numbers → IsFinished g (update_of algorithm source) order
    → AreResults algorithm source g numbers
results-of Levels source g order numbers is start edges goes was finished =
    let same = named update_of_levels g source start.0 start.1 start.2 start.3 in
    let valid : IsValidOrder g (update_of_levels (slice_index g.ids start.0)) order = subst (λ (p : Update). IsValidOrder g p order) same goes in
    let rests : IsFinished g (update_of_levels (slice_index g.ids start.0)) order = subst (λ (p : Update). IsFinished g p order) same finished in
    let are : AreNumbers (size g) (replay g (update_of_levels (slice_index g.ids start.0)) order).vertex numbers =
    subst (λ (p : Update). AreNumbers (size g) (replay g p order).vertex numbers) same was in
    (start.0, start.1, start.2, start.3, each-of g _ (IsLevelOrInf g start.0) numbers are (levels_at_rest g is start.0 start.3.inside order valid rests))
results-of Components source g order numbers is start edges goes was finished =
    each-of g _ (IsComponentLabel g) numbers was (components_at_rest g is order goes finished)
results-of Paths source g order numbers is start edges goes was finished =
    let same = named update_of_paths g source start.0 start.1 start.2 start.3 in
    let valid : IsValidOrder g (update_of_paths (slice_index g.ids start.0)) order = subst (λ (p : Update). IsValidOrder g p order) same goes in
    let rests : IsFinished g (update_of_paths (slice_index g.ids start.0)) order = subst (λ (p : Update). IsFinished g p order) same finished in
    let are : AreNumbers (size g) (replay g (update_of_paths (slice_index g.ids start.0)) order).vertex numbers =
    subst (λ (p : Update). AreNumbers (size g) (replay g p order).vertex numbers) same was in
    (start.0, start.1, start.2, start.3, each-of g _ (IsDistanceOrInf g start.0) numbers are (paths_at_rest g is start.0 start.3.inside order valid rests))
results-of Colours source g order numbers is start edges goes was finished =
    (was.count, colouring-of g _ numbers is was (colours_at_rest g is order goes finished))
results-of Cores source g order numbers is start edges goes was finished =
    each-of g _ (IsCoreNumber g) numbers was (cores_at_rest g is edges order goes finished)
results-of Pairs source g order numbers is start edges goes was finished = absurd edges
