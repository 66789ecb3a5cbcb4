use Rattle.std.proofs.Common.{◌≡◌, ℕ, Bool, List, ap, ◌∙◌}
use Rattle.sha2.specs.Sha256.{sha256}
use Rattle.graph_core.specs.Digest.{digest_bytes}
use Rattle.graph_atoms.specs.atom_cut.Index.{head_bytes, metas_bytes}
use Rattle.graph_atoms.proofs.atom_cut.IndexLemmas.{counts_same, three_parts}
use Rattle.graph_atoms.proofs.atom_cut.index.index_of.Goals as goal

pub returns : goal.returns
returns c = λ of are metas.
    let g = c.args.graph.now in
    let digest : c.digest.result ≡ sha256 (digest_bytes g) = c.digest.ensures in
    let directed : c.directed.result ≡ g.directed = c.directed.ensures in
    let head : head_bytes c.digest.result c.directed.result c.args.atoms ≡ head_bytes (sha256 (digest_bytes g)) g.directed c.args.atoms =
    ap (λ (d : List ℕ). head_bytes d c.directed.result c.args.atoms) digest ∙ ap (λ (b : Bool). head_bytes (sha256 (digest_bytes g)) b c.args.atoms) directed in
    three_parts _ _ _ _ _ _ _ _ _ _ c.in_ok-index.ensures.items c.in_ok-push_head.ensures c.in_ok-push_counts.ensures c.in_ok-push_metas.ensures head
    (counts_same g of c.args.atoms c.args.lines.now are) (ap metas_bytes metas)
