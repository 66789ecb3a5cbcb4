-- What is given is taken: the numbers stay those of the order.
use Rattle.std.proofs.Common.{◌≡◌, ◌≢◌, ◌⊎◌, ℕ, ◌||◌, Bool, true, Option, None, Some, unwrap_or, List, ◌∷◌, ◌++◌, refl, sym, ◌∙◌, ap, subst, subst₂, ⊎_elim, inl, inr}
use Rattle.std.specs.List.{AllByRecursion, list_any}
use Rattle.std.proofs.lemmas.Bool.{cases_eq, or_cases, or_left, or_right}
use Rattle.gl_base.specs.declared.entries.Entry.{Entry}
use Rattle.gl_base.specs.declared.scopes.ScopeId.{ScopeId}
use Rattle.cluster_laws.specs.cluster_core.Settings.{Setting}
use Rattle.cluster_laws.proofs.cluster_core.Basics.{set_at-cases, set_at-here, set_at-kept, set_at-there}
use Rattle.cluster_laws.proofs.cluster_core.Taking.{same_way}
use Rattle.full_scope.specs.FullUpdates.{FullUpdate}
use Rattle.full_laws.specs.FullActions.{delivers_full}
use Rattle.full_laws.specs.FullEffects.{takes_gift}
use Rattle.full_laws.specs.FullMessages.{FullMessage, Gift, Give, gifts_of}
use Rattle.full_laws.specs.FullParts.{FullPart}
use Rattle.full_laws.specs.FullReplays.{ComesTo, IsFullReplay, IsOnly, IsTaskFull, gifts_from}
use Rattle.full_laws.specs.FullWorlds.{FullWorld, full_way}
use Rattle.full_laws.specs.Items.{Item}
use Rattle.full_laws.proofs.FullWays.{two_here, two_there}

-- a given number is taken
taken_is : (n : ℕ) (given : Option ℕ) (here : ℕ) → IsOnly n given → (given ≡ None → here ≡ n) → unwrap_or given here ≡ n
taken_is n None here only else_here = else_here refl
taken_is n (Some m) here only else_here = only

module _ (st : Setting) (p : FullUpdate) (w : FullWorld) (from to : ℕ) (s : ScopeId) (gift : Gift) (behind : List FullMessage) (first : w.link from to ≡ Give s gift ∷ behind) where
  abbrev new : FullWorld
  new = delivers_full st w from to (Give s gift ∷ behind)

  abbrev f : FullPart
  f = takes_gift s gift (w.part to)

  out_same : (i j : ℕ) → (new.part i).out j ≡ (w.part i).out j
  out_same i j = set_at-kept (λ (part : FullPart). part.out j) w.part to f refl i

  -- the gift is the first on its way
  gifts_here : gifts_from w from to ≡ gift ∷ gifts_from new from to
  gifts_here =
      let way : full_way new from to ≡ behind ++ (w.part from).out to = λ k. two_here w.link from to behind k ++ out_same from to k in
      ap (λ l. gifts_of (l ++ (w.part from).out to)) first ∙ ap (λ l. gift ∷ gifts_of l) (sym way)

  gifts_there : (i j : ℕ) → (i ≢ from) ⊎ (j ≢ to) → gifts_from new i j ≡ gifts_from w i j
  gifts_there i j off = λ k. gifts_of (two_there w.link from to behind i j off k ++ out_same i j k)

  -- fewer gifts are on their way
  all_less : (P : Gift → Type 0) (i j : ℕ) → AllByRecursion P (gifts_from w i j) → AllByRecursion P (gifts_from new i j)
  all_less P i j all = ⊎_elim
      (λ (same : (i ≡ from) × (j ≡ to)).
      let here = subst (AllByRecursion P) gifts_here (subst₂ (λ k l. AllByRecursion P (gifts_from w k l)) same.0 same.1 all) in
      subst₂ (λ k l. AllByRecursion P (gifts_from new k l)) (sym same.0) (sym same.1) here.1)
      (λ (off : (i ≢ from) ⊎ (j ≢ to)). subst (AllByRecursion P) (sym (gifts_there i j off)) all)
      (same_way from to i j)

  all_more : (P : Gift → Type 0) → P gift → (i : ℕ) → AllByRecursion P (gifts_from new i to) → AllByRecursion P (gifts_from w i to)
  all_more P its i all = ⊎_elim
      (λ (same : i ≡ from).
      let here = subst (λ k. AllByRecursion P (gifts_from new k to)) same all in
      subst (λ k. AllByRecursion P (gifts_from w k to)) (sym same) (subst (AllByRecursion P) (sym gifts_here) (its, here)))
      (λ (off : i ≢ from). subst (AllByRecursion P) (gifts_there i to (inl off)) all)
      (cases_eq i from)

  -- ---- numbers

  comes_here : (i : Item) (n : ℕ) → ComesTo (λ q. gifts_from w q to) i ((w.part to).number i) n → ComesTo (λ q. gifts_from new q to) i ((new.part to).number i) n
  comes_here i n comes =
      let its : IsOnly n (gift.numbers i) = (subst (AllByRecursion (λ (g : Gift). IsOnly n (g.numbers i))) gifts_here (comes.given from)).0 in
      record {
        given = λ q. all_less (λ g. IsOnly n (g.numbers i)) q to (comes.given q);
        else_here = λ none.
            set_at-here (λ (part : FullPart). part.number i) w.part to f to refl
            ∙ taken_is n (gift.numbers i) ((w.part to).number i) its
            (λ gives_none. comes.else_here (λ q. all_more (λ g. g.numbers i ≡ None) gives_none q (none q)));
      }

  comes_on : (i : Item) (a n : ℕ) → ComesTo (λ q. gifts_from w q a) i ((w.part a).number i) n → ComesTo (λ q. gifts_from new q a) i ((new.part a).number i) n
  comes_on i a n comes = ⊎_elim
      (λ (here : a ≡ to).
      subst (λ b. ComesTo (λ q. gifts_from new q b) i ((new.part b).number i) n) (sym here)
      (comes_here i n (subst (λ b. ComesTo (λ q. gifts_from w q b) i ((w.part b).number i) n) here comes)))
      (λ (off : a ≢ to).
      let number : (new.part a).number i ≡ (w.part a).number i = set_at-there (λ (part : FullPart). part.number i) w.part to f a off in
      let gifts : (λ q. gifts_from w q a) ≡ (λ q. gifts_from new q a) = λ k q. sym (gifts_there q a (inr off)) k in
      subst (λ g. ComesTo g i ((new.part a).number i) n) gifts (subst (λ m. ComesTo (λ q. gifts_from w q a) i m n) (sym number) comes))
      (cases_eq a to)

  -- ---- tasks

  abbrev wakes_u : ℕ → Gift → Bool
  wakes_u u g = g.wakes u

  task_here : (u : ℕ) → (new.part to).task u ≡ (gift.wakes u || (w.part to).task u)
  task_here u = set_at-here (λ (part : FullPart). part.task u) w.part to f to refl

  task_still : (u : ℕ) → IsTaskFull st w u → IsTaskFull st new u
  task_still u task = ⊎_elim
      (λ (here : (w.part (st.owner u)).task u ≡ true). inl (set_at-cases (λ (part : FullPart). part.task u ≡ true) w.part to f (st.owner u)
      (λ same. or_right (gift.wakes u) ((w.part to).task u) (subst (λ j. (w.part j).task u ≡ true) same here)) (λ there. here)))
      (λ (coming : (q : ℕ) × (list_any (wakes_u u) (gifts_from w q (st.owner u)) ≡ true)). ⊎_elim
      (λ (both : (coming.0 ≡ from) × (st.owner u ≡ to)).
      let some : (gift.wakes u || list_any (wakes_u u) (gifts_from new from to)) ≡ true =
      sym (ap (list_any (wakes_u u)) gifts_here) ∙ subst₂ (λ k l. list_any (wakes_u u) (gifts_from w k l) ≡ true) both.0 both.1 coming.1 in
      ⊎_elim
      (λ (woken : gift.wakes u ≡ true). inl (ap (λ j. (new.part j).task u) both.1 ∙ task_here u ∙ or_left (gift.wakes u) ((w.part to).task u) woken))
      (λ (later : list_any (wakes_u u) (gifts_from new from to) ≡ true). inr (from, subst (λ j. list_any (wakes_u u) (gifts_from new from j) ≡ true) (sym both.1) later))
      (or_cases (gift.wakes u) (list_any (wakes_u u) (gifts_from new from to)) some))
      (λ (other : (coming.0 ≢ from) ⊎ (st.owner u ≢ to)). inr (coming.0, ap (list_any (wakes_u u)) (gifts_there coming.0 (st.owner u) other) ∙ coming.1))
      (same_way from to coming.0 (st.owner u)))
      task

  task_was : (u : ℕ) → IsTaskFull st new u → IsTaskFull st w u
  task_was u task = ⊎_elim
      (λ (here : (new.part (st.owner u)).task u ≡ true). ⊎_elim
      (λ (same : st.owner u ≡ to). ⊎_elim
      (λ (woken : gift.wakes u ≡ true). inr (
        from,
        subst (λ j. list_any (wakes_u u) (gifts_from w from j) ≡ true) (sym same)
            (ap (list_any (wakes_u u)) gifts_here ∙ or_left (gift.wakes u) (list_any (wakes_u u) (gifts_from new from to)) woken),
      ))
      (λ (was : (w.part to).task u ≡ true). inl (subst (λ j. (w.part j).task u ≡ true) (sym same) was))
      (or_cases (gift.wakes u) ((w.part to).task u) (sym (task_here u) ∙ subst (λ j. (new.part j).task u ≡ true) same here)))
      (λ (other : st.owner u ≢ to). inl (sym (set_at-there (λ (part : FullPart). part.task u) w.part to f (st.owner u) other) ∙ here))
      (cases_eq (st.owner u) to))
      (λ (coming : (q : ℕ) × (list_any (wakes_u u) (gifts_from new q (st.owner u)) ≡ true)). inr (
        coming.0,
        ⊎_elim
            (λ (both : (coming.0 ≡ from) × (st.owner u ≡ to)).
            subst₂ (λ k l. list_any (wakes_u u) (gifts_from w k l) ≡ true) (sym both.0) (sym both.1)
            (ap (list_any (wakes_u u)) gifts_here
            ∙ or_right (gift.wakes u) (list_any (wakes_u u) (gifts_from new from to)) (subst₂ (λ k l. list_any (wakes_u u) (gifts_from new k l) ≡ true) both.0 both.1 coming.1)))
            (λ (other : (coming.0 ≢ from) ⊎ (st.owner u ≢ to)). sym (ap (list_any (wakes_u u)) (gifts_there coming.0 (st.owner u) other)) ∙ coming.1)
            (same_way from to coming.0 (st.owner u)),
      ))
      task

  pub replay_taken : (order : List Entry) → IsFullReplay st p w order → IsFullReplay st p new order
  replay_taken order replay =
      record {
        valid = replay.valid;
        logs = λ a. set_at-kept (λ (part : FullPart). part.log) w.part to f refl a ∙ replay.logs a;
        tickets = replay.tickets;
        drawn = replay.drawn;
        owners = replay.owners;
        numbers = λ i a one kept. comes_on i a _ (replay.numbers i a one kept);
        tasks = λ u low. (λ task. task_still u ((replay.tasks u low).0 task), λ task. (replay.tasks u low).1 (task_was u task));
      }
