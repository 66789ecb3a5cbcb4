-- New machines, one after another.
use Rattle.std.proofs.Common.{◌≡◌, ◌<◌, ℕ, ◌∷◌, ◌++◌, ◌∙◌, List, [], Option, Some, length, get_or, slice_index, sym, ap, subst, inl, inr, arith}
use Rattle.std.proofs.lemmas.Bool.{cases_lt}
use Rattle.std.proofs.lemmas.List.{get_or_push, length-append}
use Rattle.std.proofs.Math.ListN.{get_or-append}
use Rattle.gl_base.specs.declared.snapshots.Base.{Base}
use Rattle.placement.specs.declared.places.cores.NewTerms.{NewTerms}
use Rattle.placed_machines.specs.Inner.Making.{AreUnsetParts, CanAllSave, CanSave, Cluster, AnyMachine, GoesBy, HaveAdmitted, IsAnyMachineOf, IsUnsetPart, LocalView, Machine, SavesBy, Setting, StandFirst, Update, goes_back, with_locking}
use Rattle.placed_machines.specs.declared.placing.Places.{Places}

-- the same terms with another serial
abbrev pub with_serial : NewTerms → ℕ → NewTerms
with_serial terms s = record terms { serial = s }

goes_with : (st : Setting) (window : Option ℕ) (terms : NewTerms) (s : ℕ) → GoesBy st window terms → GoesBy st window (with_serial terms s)
goes_with st window terms s goes =
    record { is = goes.is; machines = goes.machines; vertices = goes.vertices; engine = goes.engine; pipeline = goes.pipeline; window_is = goes.window_is; base = goes.base }

saves_with : (st : Setting) (program : Update) (base : Base) (terms : NewTerms) (places : Places) (s : ℕ) → SavesBy st program base terms places → SavesBy st program base (with_serial terms s) places
saves_with st program base terms places s saves =
    record {
      goes = goes_with (with_locking st) places.run.window terms s saves.goes;
      locks = saves.locks;
      engine = saves.engine;
      window_is = saves.window_is;
      program_is = saves.program_is;
      begins = saves.begins;
    }

-- a part by its place
unset_at : (st : Setting) (parts : List LocalView) (k : ℕ) (l : LocalView) → AreUnsetParts st parts → k < length parts → l ≡ get_or parts k l → IsUnsetPart st k l
unset_at st parts k l are low at = subst (IsUnsetPart st k) (sym at) (are.each k l (subst (λ (n : ℕ). k < n) are.count low))

mine_at : (st : Setting) (parts : List LocalView) (k : ℕ) (l : LocalView) → AreUnsetParts st parts → k < length parts → l ≡ get_or parts k l → IsUnsetPart st l.me.0 l
mine_at st parts k l are low at =
    let part = unset_at st parts k l are low at in
    subst (λ (a : ℕ). IsUnsetPart st a l) (sym part.machine) part

pub can_save : (parts : List LocalView) (program : Update) (base : Base) (terms own : NewTerms) (places : Places) (k s : ℕ) (l : LocalView) → CanAllSave parts program base terms places → k < length parts → l ≡ get_or parts k l → own ≡ with_serial terms s →
    CanSave l program base own places
can_save parts program base terms own places k s l can low at is =
    subst (λ (t : NewTerms). CanSave l program base t places) (sym is) (record {
      st = can.st;
      saves = saves_with can.st program base terms places s can.saves;
      colours = can.colours;
      unset = mine_at (with_locking can.st) parts k l can.unset low at;
    })

module _ {P : Type 0} (meaning : P → Update) (program : P) (parts : List LocalView) (base : Base) (terms : NewTerms) (places : Places) (serials : List ℕ) where
  -- each of the first machines is that of the law
  abbrev pub StandSoFar : List (AnyMachine P) → Type 0
  StandSoFar placed =
      (st : Setting) (before : Cluster) → SavesBy st (meaning program) base terms places → AreUnsetParts (with_locking st) parts → HaveAdmitted st serials before →
      (a : ℕ) (d : AnyMachine P) → a < length placed → IsAnyMachineOf meaning st a (goes_back st st.start st.base a (before.machine a)) (get_or placed a d)

  -- what a new machine with these terms is
  abbrev pub StandsNew : LocalView → NewTerms → AnyMachine P → Type 0
  StandsNew l own x =
      (st : Setting) (m : Machine) → SavesBy st (meaning program) base own places → IsUnsetPart (with_locking st) l.me.0 l → m.part.serial ≡ own.serial →
      IsAnyMachineOf meaning st l.me.0 (goes_back st st.start st.base l.me.0 m) x

  -- one machine more
  pub stand_more : (placed : List (AnyMachine P)) (k : ℕ) (l : LocalView) (own : NewTerms) (x : AnyMachine P) → length placed ≡ k → k < length parts → l ≡ get_or parts k l →
      own ≡ with_serial terms (slice_index serials k) → StandsNew l own x → StandSoFar placed → StandSoFar (placed ++ x ∷ [])
  stand_more placed k l own x count low at is new so_far = λ st before saves are admitted a d below.
      elim (cases_lt a k) [
        | inl earlier ↦
            let inside : a < length placed = subst (λ (n : ℕ). a < n) (sym count) earlier in
            subst (IsAnyMachineOf meaning st a (goes_back st st.start st.base a (before.machine a))) (sym (get_or-append placed (x ∷ []) d a inside)) (so_far st before saves are admitted a d inside)
        | inr past ↦
            let last : a ≡ k = omega (arith, length-append placed (x ∷ []), count, below) in
            let part = unset_at (with_locking st) parts k l are low at in
            let machine : k < st.machines = subst (λ (n : ℕ). k < n) are.count low in
            let serial : (before.machine l.me.0).part.serial ≡ own.serial =
            ap (λ (b : ℕ). (before.machine b).part.serial) part.machine ∙ admitted k machine ∙ ap (λ (t : NewTerms). t.serial) (sym is) in
            let own_saves : SavesBy st (meaning program) base own places =
            subst (λ (t : NewTerms). SavesBy st (meaning program) base t places) (sym is) (saves_with st (meaning program) base terms places (slice_index serials k) saves) in
            let stands : IsAnyMachineOf meaning st l.me.0 (goes_back st st.start st.base l.me.0 (before.machine l.me.0)) x =
            new st (before.machine l.me.0) own_saves (mine_at (with_locking st) parts k l are low at) serial in
            let here : IsAnyMachineOf meaning st k (goes_back st st.start st.base k (before.machine k)) x =
            subst (λ (b : ℕ). IsAnyMachineOf meaning st b (goes_back st st.start st.base b (before.machine b)) x) part.machine stands in
            subst (λ (b : ℕ). IsAnyMachineOf meaning st b (goes_back st st.start st.base b (before.machine b)) (get_or (placed ++ x ∷ []) b d)) (sym last)
            (subst (IsAnyMachineOf meaning st k (goes_back st st.start st.base k (before.machine k))) (sym (get_or_push placed x d k count)) here)
      ]

  pub all_stand : (placed : List (AnyMachine P)) → length placed ≡ length parts → StandSoFar placed →
      (st : Setting) (before : Cluster) → SavesBy st (meaning program) base terms places → AreUnsetParts (with_locking st) parts → HaveAdmitted st serials before → StandFirst meaning st before placed
  all_stand placed many so_far st before saves are admitted =
      record {
        many = many ∙ are.count;
        each = λ a d low. so_far st before saves are admitted a d (subst (λ (n : ℕ). a < n) (sym (many ∙ are.count)) low);
      }
