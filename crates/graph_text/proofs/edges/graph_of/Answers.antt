use Rattle.std.proofs.Common.{◌≡◌, ℕ, Ok, Err, List, length, sym, ◌∙◌, ap, subst}
use Rattle.graph_core.specs.declared.graph_lists.EdgeIn.{EdgeIn}
use Rattle.graph_text.specs.lines.Found.{found_of}
use Rattle.gl_base.specs.declared.text_faults.TextFile.TheVariants.{Edges}
use Rattle.graph_text.specs.Inner.FoundEdges.{Builds}
use Rattle.graph_text.specs.Inner.Settled.{ended, place_of, refused_at}
use Rattle.graph_text.specs.Edges.{edge_rules}
use Rattle.graph_text.proofs.EdgeTexts.{refused_is, graph_refused, graph_ended}
use Rattle.graph_text.proofs.edges.graph_of.Goals as goal

pub refusal-requires : goal.refusal-requires
refusal-requires c =
    let long : length c.args.found.items.items ≡ length c.deref-in-Err.result.now = sym c.requires.long ∙ ap length (sym c.deref-in-Err.ensures.value) in
    refused_is c.args.list.ids.items c.args.directed c.args.found.items.items c.in-Err.fault (length c.deref-in-Err.result.now) c.args.list.are_ids.ascending long c.in-Err.ensures.fault

pub returns-in-Err : goal.returns-in-Err
returns-in-Err c =
    let refused = c.refusal.ensures ∙ ap (λ (places : List ℕ). refused_at Edges places (place_of c.in-Err.fault)) c.deref-in-Err.ensures.value in
    subst (λ reading. Builds c.args.list.ids.items c.args.directed (found_of c.args.found) (Err reading)) (sym refused)
    (graph_refused c.args.list.ids.items c.args.directed (found_of c.args.found) c.in-Err.fault c.args.list.are_ids.ascending c.in-Err.ensures.fault)

pub returns-in-Ok-ended : goal.returns-in-Ok-ended
returns-in-Ok-ended c = (
  λ weighted. graph_ended c.args.list.ids.items c.args.directed (found_of c.args.found) (Ok c.args.found.items.items) weighted c.args.list.are_ids.ascending
      c.in-Ok.ensures.no_fault (ap (ended (edge_rules c.args.list.ids.items c.args.directed weighted) c.args.found.items.items) c.in-Ok-ended.ensures),
  c.in-Ok.ensures.graph,
)

pub returns : goal.returns
returns c = λ weighted.
    let faulty : ended (edge_rules c.args.list.ids.items c.args.directed weighted) c.args.found.items.items c.args.found.ending ≡ Err c.in-Err-ended.fault =
    ap (λ (ids : List ℕ). ended (edge_rules ids c.args.directed weighted) c.args.found.items.items c.args.found.ending) (sym c.deref.ensures.value)
    ∙ ap (λ (edges : List EdgeIn). ended (edge_rules c.deref.result.now c.args.directed weighted) edges c.args.found.ending) (sym c.deref-2.ensures.value)
    ∙ c.in-Err-ended.ensures weighted in
    graph_ended c.args.list.ids.items c.args.directed (found_of c.args.found) (Err c.in-Err-ended.fault) weighted c.args.list.are_ids.ascending c.in-Ok.ensures.no_fault faulty
