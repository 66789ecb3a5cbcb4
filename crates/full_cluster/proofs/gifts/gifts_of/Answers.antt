use Rattle.std.proofs.Common.{◌≡◌, ◌≢◌, ◌∙◌, ◌==◌, ◌&&◌, ◌<◌, ◌++◌, ◌∷◌, [], not, Bool, false, List, Option, length, slice_index_or, sym, ap, subst, ⊎_elim, arith}
use Rattle.std.proofs.lemmas.Bool.{cases_eq}
use Rattle.std.proofs.lemmas.List.{get_or_default}
use Rattle.cluster_laws.specs.cluster_core.Scopes.{takes_part}
use Rattle.full_laws.specs.FullEffects.{gift_for}
use Rattle.full_cluster.specs.declared.giving.FullGift.{FullGift}
use Rattle.full_cluster.specs.Updating.{HasGift}
use Rattle.full_cluster.specs.Inner.Ways.{has_own_of}
use Rattle.full_cluster.proofs.WayRules.{takes_is}
use Rattle.full_cluster.proofs.WritingRows.{at_end, before_end, longer}
use Rattle.full_cluster.proofs.gifts.gifts_of.Goals as goal

pub loop-q-preserved : goal.loop-q-preserved
loop-q-preserved c =
    let q = c.loop-q.q in
    let old = c.loop-q.gifts.items in
    let new = c.push.new.self.items in
    let marks = c.in_ok-marks.marks.items in
    let gift = c.in_ok-gift.gift in
    let inv = c.loop-q.invariant in
    let more : new ≡ old ++ gift ∷ [] = c.in_ok-push.ensures.items in
    let inside = c.loop-q-test.true in
    let many = c.in_ok-marks.ensures.count in
    let low : q < length marks = omega (arith, inside, many) in
    let mark : c.index.result.now ≡ slice_index_or marks q false = c.index.ensures ∙ get_or_default marks q c.index.result.now false low in
    record {
      count = ap length more ∙ longer old gift q inv.count;
      given = λ st p lent divided made wakes k d early.
          let me = st.owner c.args.v.0 in
          ⊎_elim
          (λ (at : k ≡ q).
          let last : HasGift st (slice_index_or marks q false && not (q == me)) (gift_for st p lent c.args.v.0 q) gift =
          subst (λ (b : Bool). HasGift st (b && not (q == me)) (gift_for st p lent c.args.v.0 q) gift) mark (c.in_ok-gift.ensures st p lent divided made wakes) in
          let slot : slice_index_or new q d ≡ gift = ap (λ (gs : List (Option FullGift)). slice_index_or gs q d) more ∙ at_end old gift d q inv.count in
          subst (λ j. HasGift st (slice_index_or marks j false && not (j == me)) (gift_for st p lent c.args.v.0 j) (slice_index_or new j d)) (sym at)
          (subst (HasGift st (slice_index_or marks q false && not (q == me)) (gift_for st p lent c.args.v.0 q)) (sym slot) last))
          (λ (off : k ≢ q).
          let before : k < q = omega (arith, early, off) in
          let slot : slice_index_or new k d ≡ slice_index_or old k d = ap (λ (gs : List (Option FullGift)). slice_index_or gs k d) more ∙ before_end old gift d k q inv.count before in
          subst (HasGift st (slice_index_or marks k false && not (k == me)) (gift_for st p lent c.args.v.0 k)) (sym slot) (inv.given st p lent divided made wakes k d before))
          (cases_eq k q);
    }

pub returns-clause-given : goal.returns-clause-given
returns-clause-given c = λ st p lent divided made wakes q d low.
    let v = c.args.v.0 in
    let marks = c.in_ok-marks.marks.items in
    let inv = c.loop-q.invariant in
    let many = inv.count in
    let end = c.loop-q.auto.q-end in
    let there : q < c.loop-q.q = omega (arith, low, many) in
    let here : slice_index_or marks q false ≡ takes_part st v q =
    c.in_ok-marks.ensures.marked q (omega (arith, there, end)) ∙ (λ k. has_own_of (sym divided.graph k) (sym divided.owners k) v q) ∙ takes_is st v q in
    subst (λ (b : Bool). HasGift st (b && not (q == st.owner v)) (gift_for st p lent v q) (slice_index_or c.loop-q.gifts.items q d)) here (inv.given st p lent divided made wakes q d there)
