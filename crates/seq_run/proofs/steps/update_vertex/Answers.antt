use Rattle.std.proofs.Common.{◌≡◌, ◌∷◌, ◌++◌, slice_index, slice_set, sym, ap, ◌∙◌}
use Rattle.std.proofs.Math.Seq.{get_or-append_seam}
use Rattle.seq_run.proofs.InPieces.{written, one_number}
use Rattle.seq_run.proofs.steps.update_vertex.Goals as goal

pub returns-clause-number : goal.returns-clause-number
returns-clause-number g c =
    let low = c.split_at_mut-low.result.0.now in let one = c.split_at_mut-centre.result.0.now in let high = c.split_at_mut-centre.result.1.now in
    let v = c.args.vertex in let values = c.args.values.now in let x = c.update_centre.new.centre in
    let parts : values ≡ low ++ (one ++ high) = c.split_at_mut-low.ensures.value ∙ ap (λ ys. low ++ ys) c.split_at_mut-centre.ensures.value in
    let whole : values ≡ low ++ slice_index one 0 ∷ high = parts ∙ ap (λ ys. low ++ (ys ++ high)) (one_number one c.split_at_mut-centre.ensures.front_len) in
    let own : slice_index values v ≡ slice_index one 0 =
    ap (λ ys. slice_index ys v) whole ∙ ap (λ k. slice_index (low ++ slice_index one 0 ∷ high) k) (sym c.split_at_mut-low.ensures.front_len) ∙ get_or-append_seam low (slice_index one 0) high 0 in
    written low one high v x c.split_at_mut-low.ensures.front_len c.split_at_mut-centre.ensures.front_len ∙ ap (λ ys. slice_set ys v x) (sym parts)
    ∙ ap (slice_set values v) (c.update_centre.ensures.number ∙ cc (whole, own))
