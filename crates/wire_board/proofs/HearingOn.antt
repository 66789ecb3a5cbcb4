-- One message more is heard, or told.
use Rattle.std.proofs.Common.{List, [], ap, append_assoc, map, refl, subst, sym, ◌++◌, ◌∙◌, ◌∷◌, ◌≡◌, ℕ}
use Rattle.std.proofs.lemmas.List.{map-append}
use Rattle.cluster_laws.proofs.cluster_core.Basics.{set_at-same}
use Rattle.cluster_laws.specs.cluster_core.Messages as core
use Rattle.cluster_laws.specs.cluster_model.Events as law
use Rattle.cluster_laws.specs.cluster_model.Working.{hands, prompt, receives}
use Rattle.cluster_step.proofs.clusters.Goings.{going_trace}
use Rattle.coordinator.specs.machine_api.Promises.{HasReceived, IsFirstFrom, MayReceiveFirst, MessageView, OfEach, SendsItsFirst, StandsStill, message_view, view_of}
use Rattle.coordinator.specs.machine_api.Told.{message_read}
use Rattle.wire_board.proofs.Messages.{at, at_link, at_machine, at_same, deliveries, deliveries_others, hands_again, hands_same, hears_run}
use Rattle.wire_board.specs.Going.{Cluster, Machine, Setting}
use Rattle.wire_board.specs.Hearing.{CanHear, HasHeardAll, HasToldAll, IsHearing, receives_all}
use Rattle.wire.specs.declared.wire_msgs.messages.Message.{Message}

receives_snoc : (st : Setting) (a : ℕ) (told : List core.Message) (one : core.Message) (m : Machine) → receives_all st a (told ++ one ∷ []) m ≡ prompt st a (receives st a one (receives_all st a told m))
receives_snoc st a [] one m = refl
receives_snoc st a (first ∷ told) one m = receives_snoc st a told one (prompt st a (receives st a first m))

module _ {M : Type 0} (represents : Setting → ℕ → Machine → M → Type 0) (p a : ℕ) (y now : M) (heard : List MessageView) (message : Message) (rest : List MessageView)
    (has : HasHeardAll represents y p a heard (message_view message ∷ rest) now) where
  -- behind the first ones
  module _ (st : Setting) (c : Cluster) (hearing : IsHearing represents y p a (heard ++ message_view message ∷ rest) st c) where
    abbrev there : Cluster
    there = at c a p a (receives_all st a (map message_read heard) (c.machine a)) (view_of message ∷ map message_read rest)

    first_there : IsFirstFrom represents now p message st there a
    first_there =
        let words : List core.Message = map message_read heard in
        let left : List core.Message = view_of message ∷ map message_read rest in
        let on : c.link p a ≡ words ++ left = hearing.told ∙ map-append message_read heard (message_view message ∷ rest) in
        let start : at c a p a (c.machine a) (words ++ left) ≡ c = ap (at c a p a (c.machine a)) (sym on) ∙ at_same c a p a in
        let m : Machine = receives_all st a words (c.machine a) in
        let trace : law.IsTrace st c (deliveries p a words) (at c a p a m left) =
        subst (λ (k : Cluster). law.IsTrace st k (deliveries p a words) (at c a p a m left)) start
        (hears_run st c p a hearing.runs hearing.from hearing.awake.machine words (c.machine a) left hearing.awake.runs)
        in
        record {
          setting = hearing.setting;
          going = going_trace st hearing.setting (deliveries p a words) (deliveries_others p a words) c (at c a p a m left) hearing.going trace;
          machine = hearing.awake.machine;
          here = subst (λ (n : Machine). represents st a n now) (sym (at_machine c a p a m left)) (has st c hearing);
          behind = map message_read rest;
          first = at_link c a p a m left;
        }

  pub next_may : CanHear represents y p a (heard ++ message_view message ∷ rest) → MayReceiveFirst represents now p message
  next_may can = (can.0, there can.0 can.1 can.2, a, first_there can.0 can.1 can.2)

  pub next_heard : (z : M) → HasReceived represents now p message z → HasHeardAll represents y p a (heard ++ message_view message ∷ []) rest z
  next_heard z received st c all =
      let hearing : IsHearing represents y p a (heard ++ message_view message ∷ rest) st c =
      subst (λ (ms : List MessageView). IsHearing represents y p a ms st c) (append_assoc heard (message_view message ∷ []) rest) all
      in
      let m : Machine = receives_all st a (map message_read heard) (c.machine a) in
      let got : represents st a (prompt st a (receives st a (view_of message) ((there st c hearing).machine a))) z = received st (there st c hearing) a (first_there st c hearing) in
      let here : represents st a (prompt st a (receives st a (view_of message) m)) z =
      subst (λ (n : Machine). represents st a (prompt st a (receives st a (view_of message) n)) z) (at_machine c a p a m (view_of message ∷ map message_read rest)) got
      in
      subst (λ (n : Machine). represents st a n z)
      (sym (ap (λ (ms : List core.Message). receives_all st a ms (c.machine a)) (map-append message_read heard (message_view message ∷ [])) ∙ receives_snoc st a (map message_read heard) (view_of message) (c.machine a))) here

  -- it is what it was
  pub still_heard : (z : M) → StandsStill represents now z → HasHeardAll represents y p a heard (message_view message ∷ rest) z
  still_heard z still st c hearing = still st a (receives_all st a (map message_read heard) (c.machine a)) hearing.setting (has st c hearing)

pub none_heard : {M : Type 0} (represents : Setting → ℕ → Machine → M → Type 0) (p a : ℕ) (y : M) (rest : List MessageView) → HasHeardAll represents y p a [] rest y
none_heard represents p a y rest st c hearing = hearing.here

-- ---- telling

module _ {M : Type 0} (represents : Setting → ℕ → Machine → M → Type 0) (q : ℕ) (y : M) where
  pub none_told : OfEach represents y (HasToldAll represents q [] y)
  none_told st a m setting here = record { behind = m.part.out q; first = refl; after = subst (λ (n : Machine). represents st a n y) (sym (hands_same q m (m.part.out q) refl)) here }

  module _ (told : List MessageView) (now : M) (has : OfEach represents y (HasToldAll represents q told now)) where
    pub next_told : (message : Message) (z : M) → OfEach represents now (SendsItsFirst represents q message z) → OfEach represents y (HasToldAll represents q (told ++ message_view message ∷ []) z)
    next_told message z sends st a m setting here =
        let one : HasToldAll represents q told now st a m = has st a m setting here in
        let n : Machine = hands q one.behind m in
        let two : SendsItsFirst represents q message z st a n = sends st a n setting one.after in
        let behind_is : one.behind ≡ view_of message ∷ two.behind = sym (set_at-same m.part.out q one.behind) ∙ two.first in
        record {
          behind = two.behind;
          first =
              one.first ∙ ap (λ (ms : List core.Message). map message_read told ++ ms) behind_is
              ∙ sym (ap (λ (ms : List core.Message). ms ++ two.behind) (map-append message_read told (message_view message ∷ [])) ∙ append_assoc (map message_read told) (view_of message ∷ []) two.behind);
          after = subst (λ (k : Machine). represents st a k z) (hands_again q m one.behind two.behind) two.after;
        }

    pub still_told : (z : M) → StandsStill represents now z → OfEach represents y (HasToldAll represents q told z)
    still_told z still st a m setting here =
        let one : HasToldAll represents q told now st a m = has st a m setting here in
        record { behind = one.behind; first = one.first; after = still st a (hands q one.behind m) setting one.after }
