-- Events of a seat, one call after another.
use Rattle.std.proofs.Common.{List, [], false, inl, map, refl, subst, sym, true, ◌*◌, ◌++◌, ◌∷◌, ◌≡◌, ◌≢◌, ◌⊎◌, ⊎_elim, ℕ}
use Rattle.std.specs.Prelude.{Bool, Err, IfOk, IsErr, IsOk, Ok, OnErr, OnOk, Result}
use Rattle.coordinator.specs.machine_api.InTurn.{HasGrantedInTurn}
use Rattle.coordinator.specs.machine_api.Promises.{Deed, HasAdmittedSome, HasDone, HasHeard, IsReporting, MayHearCall, OfEach, StandsStill}
use Rattle.coordinator.specs.machine_api.Told.{message_read}
use Rattle.link_tables.proofs.Seeing.{sees_same, sees_then}
use Rattle.wire.specs.declared.wire_msgs.messages.Message.{Message}
use Rattle.wire_board.specs.Acts.{Act, Admits, AreMade, Does, GrantsInTurn, HasMadeOne, HasMoved, HasMovedIf, Hears, HearsCall, IsMade, LinkView, Machine, MessageView, MovesAlone, Reports, Sat, Seated, Setting, Tells}
use Rattle.wire_board.specs.Hearing.{CanHear, HasHeardAll, HasToldAll}
use Rattle.wire_board.specs.Led.{link_no}
use Rattle.wire_board.specs.Sights.{HadQueue, Sees}
use Rattle.wire_board.specs.Standings.{IsOwn}
use Rattle.wire_board.specs.declared.drawing.Drawn.{Drawn}
use Rattle.wire_board.specs.declared.drawing.Drawn.TheVariants.{Late, Made}
use Rattle.wire_board.specs.declared.passing.Heard.{Heard}
use Rattle.wire_board.specs.declared.passing.Heard.TheVariants.{Applied, Empty}
use Rattle.wire_board.specs.declared.passing.Heard.TheVariants as heard
use Rattle.wire_board.specs.declared.passing.Told.{Told}
use Rattle.wire_board.specs.declared.passing.Told.TheVariants.{Moved, Nothing}
use Rattle.wire_board.specs.declared.passing.Told.TheVariants as told

module _ {M : Type 0} (represents : Setting → ℕ → Machine → M → Type 0) where
  pub still_then : (x y z : M) → StandsStill represents x y → StandsStill represents y z → StandsStill represents x z
  still_then x y z one other st a m setting here = other st a m setting (one st a m setting here)

  pub still_same : (x y : M) → y ≡ x → StandsStill represents x y
  still_same x y is st a m setting here = subst (represents st a m) (sym is) here

  module _ (many peers a : ℕ) where
    pub then_made : (acts : List Act) (x y z : M) (old mid new : Sat (Seated M) LinkView) → StandsStill represents x y → Sees old mid
        → AreMade represents many peers a acts y mid z new → AreMade represents many peers a acts x old z new
    then_made [] x y z old mid new still sees made = (still_then x y z still made.0, sees_then old mid new sees made.1)
    then_made (act ∷ acts) x y z old mid new still sees made =
        (made.0, made.1, made.2, made.3, still_then x y made.0 still made.4, sees_then old mid made.1 sees made.5, made.6, made.7)

    pub made_then : (one other : List Act) (x y z : M) (old mid new : Sat (Seated M) LinkView) → AreMade represents many peers a one x old y mid
        → AreMade represents many peers a other y mid z new → AreMade represents many peers a (one ++ other) x old z new
    made_then [] other x y z old mid new first second = then_made other x y z old mid new first.0 first.1 second
    made_then (act ∷ one) other x y z old mid new first second =
        (first.0, first.1, first.2, first.3, first.4, first.5, first.6, made_then one other first.2 y z first.3 mid new first.7 second)

    pub none_made : (x y : M) (old new : Sat (Seated M) LinkView) → y ≡ x → Sees old new → AreMade represents many peers a [] x old y new
    none_made x y old new same sees = (still_same x y same, sees)

    pub one_made : (act : Act) (x y : M) (old new : Sat (Seated M) LinkView) → IsMade represents many peers a act x old y new → AreMade represents many peers a (act ∷ []) x old y new
    one_made act x y old new made =
        (x, old, y, new, still_same x x refl, sees_same old old refl, made, (still_same y y refl, sees_same new new refl))

    -- ---- with what is said of them

    pub moved_one : (act : Act) (x y : M) (old new : Sat (Seated M) LinkView) (IfSome IfNone : Type 0) → IsMade represents many peers a act x old y new → (IfNone → ⊥)
        → HasMoved represents many peers a x old y new IfSome IfNone
    moved_one act x y old new IfSome IfNone made never = (act ∷ [], one_made act x y old new made, λ some e. cc, λ none. absurd (never none))

    pub moved_none : (x y : M) (old new : Sat (Seated M) LinkView) (IfSome IfNone : Type 0) → StandsStill represents x y → Sees old new → (IfSome → ⊥)
        → HasMoved represents many peers a x old y new IfSome IfNone
    moved_none x y old new IfSome IfNone still sees never = ([], (still, sees), λ some. absurd (never some), λ none. refl)

    left_some : (one other : List Act) → one ≢ [] → one ++ other ≢ []
    left_some [] other some = absurd (some refl)
    left_some (act ∷ one) other some = λ e. cc

    right_some : (one other : List Act) → other ≢ [] → one ++ other ≢ []
    right_some [] other some = some
    right_some (act ∷ one) other some = λ e. cc

    both_none : (one other : List Act) → one ≡ [] → other ≡ [] → one ++ other ≡ []
    both_none one other first second = subst (λ (l : List Act). l ++ other ≡ []) (sym first) second

    pub moved_both : (x y z : M) (old mid new : Sat (Seated M) LinkView) (IfSome IfNone One Still Other Calm : Type 0) → HasMoved represents many peers a x old y mid One Still
        → HasMoved represents many peers a y mid z new Other Calm → (IfSome → One ⊎ Other) → (IfNone → Still × Calm) → HasMoved represents many peers a x old z new IfSome IfNone
    moved_both x y z old mid new IfSome IfNone One Still Other Calm first second some none = (
      first.0 ++ second.0,
      made_then first.0 second.0 x y z old mid new first.1 second.1,
      λ so. ⊎_elim (λ (o : One). left_some first.0 second.0 (first.2 o)) (λ (o : Other). right_some first.0 second.0 (second.2 o)) (some so),
      λ so. let n = none so in both_none first.0 second.0 (first.3 n.0) (second.3 n.1),
    )

    pub moved_then : (x y z : M) (old mid new : Sat (Seated M) LinkView) (One Still Other Calm : Type 0) → HasMoved represents many peers a x old y mid One Still
        → HasMoved represents many peers a y mid z new Other Calm → HasMoved represents many peers a x old z new (One ⊎ Other) (Still × Calm)
    moved_then x y z old mid new One Still Other Calm first second = moved_both x y z old mid new _ _ One Still Other Calm first second (λ so. so) (λ so. so)

    -- what is said of the same events otherwise
    pub moved_so : (x y : M) (old new : Sat (Seated M) LinkView) (IfSome IfNone One Still : Type 0) → HasMoved represents many peers a x old y new One Still → (IfSome → One) → (IfNone → Still)
        → HasMoved represents many peers a x old y new IfSome IfNone
    moved_so x y old new IfSome IfNone One Still moved some none = (moved.0, moved.1, λ so. moved.2 (some so), λ so. moved.3 (none so))

  -- ---- what a machine does by itself

  pub alone_none : (x y : M) → StandsStill represents x y → MovesAlone represents x y false
  alone_none x y still many peers a me = moved_none many peers a x y me me _ _ still (sees_same me me refl) (λ e. cc)

  pub alone_did : {X E : Type 0} (x y z : M) (d : Deed) → IsOwn d → StandsStill represents x y → (r : Result X E) → OnOk r (HasDone represents y d z) → OnErr r (StandsStill represents y z)
      → (some : Bool) → (some ≡ true → IsOk r) → (some ≡ false → IsErr r) → MovesAlone represents x z some
  alone_did x y z d own still (Ok t) done same true ok err many peers a me =
      let made : AreMade represents many peers a (Does d ∷ []) y me z me = one_made many peers a (Does d) y z me me (own, done, sees_same me me refl) in
      (Does d ∷ [], then_made many peers a (Does d ∷ []) x y z me me me still (sees_same me me refl) made, λ e f. cc, λ e. cc)
  alone_did x y z d own still (Ok t) done same false ok err many peers a me = (let bad = err refl in absurd (cc))
  alone_did x y z d own still (Err e) done same true ok err many peers a me = (let bad = ok refl in absurd (cc))
  alone_did x y z d own still (Err e) done same false ok err many peers a me = alone_none x z (still_then x y z still same) many peers a me

  pub alone_granted : {X E : Type 0} (x y z : M) (v : ℕ) → StandsStill represents x y → (r : Result X E) → OnOk r (HasGrantedInTurn represents y v z) → OnErr r (StandsStill represents y z)
      → (some : Bool) → (some ≡ true → IsOk r) → (some ≡ false → IsErr r) → MovesAlone represents x z some
  alone_granted x y z v still (Ok t) done same true ok err many peers a me =
      let made : AreMade represents many peers a (GrantsInTurn v ∷ []) y me z me = one_made many peers a (GrantsInTurn v) y z me me (done, sees_same me me refl) in
      (GrantsInTurn v ∷ [], then_made many peers a (GrantsInTurn v ∷ []) x y z me me me still (sees_same me me refl) made, λ e f. cc, λ e. cc)
  alone_granted x y z v still (Ok t) done same false ok err many peers a me = (let bad = err refl in absurd (cc))
  alone_granted x y z v still (Err e) done same true ok err many peers a me = (let bad = ok refl in absurd (cc))
  alone_granted x y z v still (Err e) done same false ok err many peers a me = alone_none x z (still_then x y z still same) many peers a me

  pub alone_tried : {X E : Type 0} (x y : M) → (r : Result X E) → OnOk r (HasAdmittedSome represents x y) → OnErr r (StandsStill represents x y)
      → (some : Bool) → (some ≡ true → IsOk r) → (some ≡ false → IsErr r) → MovesAlone represents x y some
  alone_tried x y (Ok t) done same true ok err many peers a me = moved_one many peers a Admits x y me me _ _ (done, sees_same me me refl) (λ e. cc)
  alone_tried x y (Ok t) done same false ok err many peers a me = (let bad = err refl in absurd (cc))
  alone_tried x y (Err e) done same true ok err many peers a me = (let bad = ok refl in absurd (cc))
  alone_tried x y (Err e) done same false ok err many peers a me = alone_none x y same many peers a me

  pub alone_both : (x y z : M) (one other both : Bool) → MovesAlone represents x y one → MovesAlone represents y z other → (both ≡ true → (one ≡ true) ⊎ (other ≡ true))
      → (both ≡ false → (one ≡ false) × (other ≡ false)) → MovesAlone represents x z both
  alone_both x y z one other both first second some none many peers a me =
      moved_both many peers a x y z me me me _ _ _ _ _ _ (first many peers a me) (second many peers a me) some none

  module _ (many : ℕ) where
    -- the same, where the numbers of the seat are
    pub moved_at : (peers q a b : ℕ) (x y : M) (old new : Sat (Seated M) LinkView) (IfSome IfNone : Type 0) → q ≡ peers → b ≡ a
        → HasMoved represents many q b x old y new IfSome IfNone → HasMoved represents many peers a x old y new IfSome IfNone
    moved_at peers q a b x y old new IfSome IfNone same number moved =
        subst (λ (k : ℕ). HasMoved represents many peers k x old y new IfSome IfNone) number (subst (λ (k : ℕ). HasMoved represents many k b x old y new IfSome IfNone) same moved)

    pub made_at : (peers q a b : ℕ) (acts : List Act) (x y : M) (old new : Sat (Seated M) LinkView) → q ≡ peers → b ≡ a
        → AreMade represents many q b acts x old y new → AreMade represents many peers a acts x old y new
    made_at peers q a b acts x y old new same number made =
        subst (λ (k : ℕ). AreMade represents many peers k acts x old y new) number (subst (λ (k : ℕ). AreMade represents many k b acts x old y new) same made)

  module _ (many peers a : ℕ) (x y : M) (old new : Sat (Seated M) LinkView) (some : Bool) (sees : Sees old new) where
    -- ---- what one call makes

    pub heard_moved : (p : ℕ) (how : Heard)
        → (how ≡ Applied → (ms : List MessageView) × (ms ≢ []) × CanHear represents x p a ms × HasHeardAll represents x p a ms [] y × (queue : LinkView) × (queue.messages ≡ ms) × HadQueue old new (link_no peers p a) queue)
        → (how ≡ Empty → y ≡ x) → (how ≡ heard.Busy → y ≡ x) → (some ≡ true → how ≡ Applied) → (some ≡ false → how ≢ Applied)
        → HasMovedIf represents many peers a x old y new some
    heard_moved p Applied applied empty busy came none =
        let e = applied refl in moved_one many peers a (Hears p e.0) x y old new _ _ (e.1, e.2, e.3, sees, e.4, e.5, e.6) (λ is. none is refl)
    heard_moved p Empty applied empty busy came none = moved_none many peers a x y old new _ _ (still_same x y (empty refl)) sees (λ is. let e = came is in absurd (cc))
    heard_moved p heard.Busy applied empty busy came none = moved_none many peers a x y old new _ _ (still_same x y (busy refl)) sees (λ is. let e = came is in absurd (cc))

    pub called_moved : (how : Heard) → (how ≡ Applied → (message : Message) × MayHearCall represents x message × HasHeard represents x message y)
        → (how ≡ Empty → y ≡ x) → (how ≡ heard.Busy → y ≡ x) → (some ≡ true → how ≡ Applied) → (some ≡ false → how ≢ Applied)
        → HasMovedIf represents many peers a x old y new some
    called_moved Applied applied empty busy came none =
        let e = applied refl in moved_one many peers a (HearsCall e.0) x y old new _ _ (e.1, e.2, sees) (λ is. none is refl)
    called_moved Empty applied empty busy came none = moved_none many peers a x y old new _ _ (still_same x y (empty refl)) sees (λ is. let e = came is in absurd (cc))
    called_moved heard.Busy applied empty busy came none = moved_none many peers a x y old new _ _ (still_same x y (busy refl)) sees (λ is. let e = came is in absurd (cc))

    pub told_moved : (q : ℕ) (how : Told)
        → (how ≡ Moved → (ms : List MessageView) × OfEach represents x (HasToldAll represents q ms y) × OfEach represents x (λ st k m. (m.part.out q ≡ map message_read ms) × (m.part.out q ≢ [])))
        → (how ≡ Nothing → y ≡ x) → (how ≡ told.Busy → y ≡ x) → (some ≡ true → how ≡ Moved) → (some ≡ false → how ≢ Moved)
        → HasMovedIf represents many peers a x old y new some
    told_moved q Moved moved nothing busy came none =
        let e = moved refl in moved_one many peers a (Tells q e.0) x y old new _ _ (e.1, e.2, sees) (λ is. none is refl)
    told_moved q Nothing moved nothing busy came none = moved_none many peers a x y old new _ _ (still_same x y (nothing refl)) sees (λ is. let e = came is in absurd (cc))
    told_moved q told.Busy moved nothing busy came none = moved_none many peers a x y old new _ _ (still_same x y (busy refl)) sees (λ is. let e = came is in absurd (cc))

    pub reported_moved : (how : Told) → (how ≡ Moved → (message : Message) × OfEach represents x (IsReporting represents message y))
        → (how ≡ Nothing → StandsStill represents x y) → (how ≡ told.Busy → y ≡ x) → (some ≡ true → how ≡ Moved) → (some ≡ false → how ≢ Moved)
        → HasMovedIf represents many peers a x old y new some
    reported_moved Moved moved nothing busy came none =
        let e = moved refl in moved_one many peers a (Reports e.0) x y old new _ _ (e.1, sees) (λ is. none is refl)
    reported_moved Nothing moved nothing busy came none = moved_none many peers a x y old new _ _ (nothing refl) sees (λ is. let e = came is in absurd (cc))
    reported_moved told.Busy moved nothing busy came none = moved_none many peers a x y old new _ _ (still_same x y (busy refl)) sees (λ is. let e = came is in absurd (cc))

  pub drawn_moved : (many peers a : ℕ) (act : Act) (x y : M) (old mid new : Sat (Seated M) LinkView) (IfSome IfNone : Type 0) (how : Drawn) → Sees old mid → (how ≡ Made → IsMade represents many peers a act x mid y new)
      → (how ≡ Late → y ≡ x) → Sees mid new → (IfSome → how ≡ Made) → (IfNone → how ≡ Late) → HasMoved represents many peers a x old y new IfSome IfNone
  drawn_moved many peers a act x y old mid new IfSome IfNone Made sees made late on came none =
      (act ∷ [], then_made many peers a (act ∷ []) x x y old mid new (still_same x x refl) sees (one_made many peers a act x y mid new (made refl)), λ so e. cc, λ so. let e = none so in absurd (cc))
  drawn_moved many peers a act x y old mid new IfSome IfNone Late sees made late on came none =
      moved_none many peers a x y old new _ _ (still_same x y (late refl)) (sees_then old mid new sees on) (λ so. let e = came so in absurd (cc))

-- what two answers tell of a result
pub if_ok_both : {A E : Type 0} (r : Result A E) (P Q R : A → Type 0) → ((x : A) → P x → Q x → R x) → IfOk r P → IfOk r Q → IfOk r R
if_ok_both (Ok x) P Q R f p q = f x p q
if_ok_both (Err e) P Q R f p q = tt

-- ---- one of them

module _ {M : Type 0} (represents : Setting → ℕ → Machine → M → Type 0) (many peers a : ℕ) where
  pub one_of : (acts : List Act) (x y : M) (old new : Sat (Seated M) LinkView) → many ≡ peers * peers → AreMade represents many peers a acts x old y new → acts ≢ [] → HasMadeOne represents peers
  one_of [] x y old new square made some = absurd (some refl)
  one_of (act ∷ acts) x y old new square made some =
      inl (a, act, made.0, made.1, made.2, made.3, subst (λ (k : ℕ). IsMade represents k peers a act made.0 made.1 made.2 made.3) square made.6)

  pub one_moved : (x y : M) (old new : Sat (Seated M) LinkView) (some : Bool) → many ≡ peers * peers → HasMovedIf represents many peers a x old y new some → some ≡ true → HasMadeOne represents peers
  one_moved x y old new some square moved is = one_of moved.0 x y old new square moved.1 (moved.2 is)
