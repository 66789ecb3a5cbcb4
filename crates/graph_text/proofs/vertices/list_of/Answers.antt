use Rattle.std.proofs.Common.{◌≡◌, ℕ, Err, List, length, sym, ◌∙◌, ap, refl, subst}
use Rattle.graph_text.specs.lines.Found.{found_of}
use Rattle.gl_base.specs.declared.text_faults.TextFile.TheVariants.{Vertices}
use Rattle.graph_text.specs.Inner.FoundVertices.{Lists}
use Rattle.graph_text.specs.Inner.Settled.{ended, place_of, refused_at}
use Rattle.graph_text.specs.Vertices.{vertex_rules}
use Rattle.graph_text.proofs.VertexTexts.{unsorted_is, list_unsorted, list_ended, list_whole, sorted_are}
use Rattle.graph_text.proofs.vertices.list_of.Goals as goal

pub refusal-requires : goal.refusal-requires
refusal-requires c =
    let long : length c.args.found.items.items ≡ length c.deref-in-Err.result.now = sym c.requires.long ∙ ap length (sym c.deref-in-Err.ensures.value) in
    unsorted_is c.args.found.items.items c.in-Err.fault (length c.deref-in-Err.result.now) long c.in-Err.ensures

pub returns-in-Err : goal.returns-in-Err
returns-in-Err c =
    let refused = c.refusal.ensures ∙ ap (λ (places : List ℕ). refused_at Vertices places (place_of c.in-Err.fault)) c.deref-in-Err.ensures.value in
    subst (λ reading. Lists (found_of c.args.found) (Err reading)) (sym refused) (list_unsorted (found_of c.args.found) c.in-Err.fault c.in-Err.ensures)

pub invariant_of-result : goal.invariant_of-result
invariant_of-result c = record {
  are_ids = sorted_are c.args.found.items.items c.in-Ok.ids.items (found_of c.args.found) refl c.requires c.in-Ok.ensures.0 c.in-Ok.ensures.1;
}

pub returns-in-Ok-ended : goal.returns-in-Ok-ended
returns-in-Ok-ended c =
    (c.args.found.items.items, list_whole (found_of c.args.found) c.in-Ok.ensures.2 c.in-Ok-ended.ensures, c.in-Ok.ensures.0)

pub returns : goal.returns
returns c =
    let faulty : ended vertex_rules c.args.found.items.items c.args.found.ending ≡ Err c.in-Err-ended.fault =
    ap (λ (ids : List ℕ). ended vertex_rules ids c.args.found.ending) (sym c.deref.ensures.value) ∙ c.in-Err-ended.ensures in
    list_ended (found_of c.args.found) (Err c.in-Err-ended.fault) c.in-Ok.ensures.2 faulty
