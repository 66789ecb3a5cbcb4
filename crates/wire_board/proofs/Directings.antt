-- Events of the coordinator, one call after another.
use Rattle.std.proofs.Common.{List, Some, [], false, inl, inr, refl, subst, suc, sym, true, ◌++◌, ◌∙◌, ◌∷◌, ◌≡◌, ◌≢◌, ◌⊎◌, ⊎_elim, ℕ}
use Rattle.std.specs.Prelude.{Bool}
use Rattle.coordinator.specs.coord_core.Calls.{HasHandedOver, HasTakenReport, MayReport, StaysCoordinator}
use Rattle.coordinator.specs.machine_api.Promises.{message_view}
use Rattle.link_tables.proofs.Seeing.{sees_same, sees_then}
use Rattle.wire.specs.declared.wire_msgs.messages.Message.{Message}
use Rattle.wire_board.specs.Acts.{HearsReport, TellsCall}
use Rattle.wire_board.specs.Directing.{AreLed, CoordinatorView, HasDirected, HasDirectedIf, HasLed, HasLedAt, LeadAct, LinkView, MessageView, Sat, Seated}
use Rattle.wire_board.specs.Led.{link_no}
use Rattle.wire_board.specs.Sights.{HadQueue, Sees}
use Rattle.wire_board.specs.declared.passing.Heard.{Heard}
use Rattle.wire_board.specs.declared.passing.Heard.TheVariants.{Applied, Empty}
use Rattle.wire_board.specs.declared.passing.Heard.TheVariants as heard
use Rattle.wire_board.specs.declared.passing.Told.{Told}
use Rattle.wire_board.specs.declared.passing.Told.TheVariants.{Moved, Nothing}
use Rattle.wire_board.specs.declared.passing.Told.TheVariants as told

pub lead_stays : (c d : CoordinatorView) → d ≡ c → StaysCoordinator c d
lead_stays c d same = subst (StaysCoordinator c) (sym same) (λ st k of. of)

left_some : (one other : List LeadAct) → one ≢ [] → one ++ other ≢ []
left_some [] other some = absurd (some refl)
left_some (act ∷ one) other some = λ e. cc

right_some : (one other : List LeadAct) → other ≢ [] → one ++ other ≢ []
right_some [] other some = some
right_some (act ∷ one) other some = λ e. cc

both_none : (one other : List LeadAct) → one ≡ [] → other ≡ [] → one ++ other ≡ []
both_none one other first second = subst (λ (l : List LeadAct). l ++ other ≡ []) (sym first) second

module _ {M : Type 0} (n : ℕ) where
  then_led : (acts : List LeadAct) (b c d : CoordinatorView) (old mid new : Sat (Seated M) LinkView) → StaysCoordinator b c → Sees old mid → AreLed n acts c mid d new → AreLed n acts b old d new
  then_led [] b c d old mid new stays sees led = (λ st k of. led.0 st k (stays st k of), sees_then old mid new sees led.1)
  then_led (act ∷ acts) b c d old mid new stays sees led = (led.0, led.1, led.2, led.3, λ st k of. led.4 st k (stays st k of), sees_then old mid led.1 sees led.5, led.6, led.7)

  led_then : (one other : List LeadAct) (b c d : CoordinatorView) (old mid new : Sat (Seated M) LinkView) → AreLed n one b old c mid → AreLed n other c mid d new → AreLed n (one ++ other) b old d new
  led_then [] other b c d old mid new first second = then_led other b c d old mid new first.0 first.1 second
  led_then (act ∷ one) other b c d old mid new first second =
      (first.0, first.1, first.2, first.3, first.4, first.5, first.6, led_then one other first.2 c d first.3 mid new first.7 second)

  -- ---- with what is said of them

  pub directed_one : (c d : CoordinatorView) (old new : Sat (Seated M) LinkView) (IfSome IfNone : Type 0) → HasLedAt n c old d new → (IfNone → ⊥) → HasDirected n c old d new IfSome IfNone
  directed_one c d old new IfSome IfNone led never =
      (led.0 ∷ [], (c, old, d, new, (λ st k of. of), sees_same old old refl, led.1, ((λ st k of. of), sees_same new new refl)), λ some e. cc, λ none. absurd (never none))

  pub directed_none : (c d : CoordinatorView) (old new : Sat (Seated M) LinkView) (IfSome IfNone : Type 0) → StaysCoordinator c d → Sees old new → (IfSome → ⊥) → HasDirected n c old d new IfSome IfNone
  directed_none c d old new IfSome IfNone stays sees never = ([], (stays, sees), λ some. absurd (never some), λ none. refl)

  pub directed_both : (b c d : CoordinatorView) (old mid new : Sat (Seated M) LinkView) (IfSome IfNone One Still Other Calm : Type 0) → HasDirected n b old c mid One Still → HasDirected n c mid d new Other Calm
      → (IfSome → One ⊎ Other) → (IfNone → Still × Calm) → HasDirected n b old d new IfSome IfNone
  directed_both b c d old mid new IfSome IfNone One Still Other Calm first second some none = (
    first.0 ++ second.0,
    led_then first.0 second.0 b c d old mid new first.1 second.1,
    λ so. ⊎_elim (λ (o : One). left_some first.0 second.0 (first.2 o)) (λ (o : Other). right_some first.0 second.0 (second.2 o)) (some so),
    λ so. let n = none so in both_none first.0 second.0 (first.3 n.0) (second.3 n.1),
  )

  -- what is said of the same events otherwise
  pub directed_so : (c d : CoordinatorView) (old new : Sat (Seated M) LinkView) (IfSome IfNone One Still : Type 0) → HasDirected n c old d new One Still → (IfSome → One) → (IfNone → Still) → HasDirected n c old d new IfSome IfNone
  directed_so c d old new IfSome IfNone One Still led some none = (led.0, led.1, λ so. led.2 (some so), λ so. led.3 (none so))

  -- one of them
  pub led_of : (acts : List LeadAct) (c d : CoordinatorView) (old new : Sat (Seated M) LinkView) → AreLed n acts c old d new → acts ≢ [] → (x : CoordinatorView) × (y : CoordinatorView) × HasLed x y
  led_of [] c d old new led some = absurd (some refl)
  led_of (act ∷ acts) c d old new led some = (led.0, led.2, (act, led.6.0))

  -- ---- what one call makes

  module _ (c d : CoordinatorView) (old new : Sat (Seated M) LinkView) (some : Bool) (a : ℕ) (sees : Sees old new) where
    pub call_directed : (how : Told) → (how ≡ Moved → (message : Message) × HasHandedOver c d a (Some message)) → (how ≡ Nothing → d ≡ c) → (how ≡ told.Busy → d ≡ c)
        → (some ≡ true → how ≡ Moved) → (some ≡ false → how ≢ Moved) → HasDirectedIf n c old d new some
    call_directed Moved moved nothing busy came none = let e = moved refl in directed_one c d old new _ _ (TellsCall a e.0, (e.1, tt, sees)) (λ is. none is refl)
    call_directed Nothing moved nothing busy came none = directed_none c d old new _ _ (lead_stays c d (nothing refl)) sees (λ is. let e = came is in absurd (cc))
    call_directed told.Busy moved nothing busy came none = directed_none c d old new _ _ (lead_stays c d (busy refl)) sees (λ is. let e = came is in absurd (cc))

    pub report_directed : (how : Heard)
        → (how ≡ Applied → (message : Message) × MayReport c a (message_view message) × HasTakenReport c d a (message_view message)
        × (queue : LinkView) × (rest : List MessageView) × (queue.messages ≡ message_view message ∷ rest) × HadQueue old new (link_no (suc n) a n) queue)
        → (how ≡ Empty → d ≡ c) → (how ≡ heard.Busy → d ≡ c) → (some ≡ true → how ≡ Applied) → (some ≡ false → how ≢ Applied) → HasDirectedIf n c old d new some
    report_directed Applied applied empty busy came none =
        let e = applied refl in directed_one c d old new _ _ (HearsReport a e.0, ((e.1, e.2), (e.3, e.4, e.5, e.6), sees)) (λ is. none is refl)
    report_directed Empty applied empty busy came none = directed_none c d old new _ _ (lead_stays c d (empty refl)) sees (λ is. let e = came is in absurd (cc))
    report_directed heard.Busy applied empty busy came none = directed_none c d old new _ _ (lead_stays c d (busy refl)) sees (λ is. let e = came is in absurd (cc))

-- Something has moved, and nothing had before: something has passed, or what follows has moved.
pub passed_or : (any moved passed : Bool) (X : Type 0) → (any ≡ true → (moved ≡ true) ⊎ (passed ≡ true)) → X × (moved ≡ false) → (passed ≡ true) ⊎ (X × (any ≡ false))
passed_or true moved passed X either so = ⊎_elim (λ was. let e : true ≡ false = sym was ∙ so.1 in absurd (cc)) (λ one. inl one) (either refl)
passed_or false moved passed X either so = inr (so.0, refl)
