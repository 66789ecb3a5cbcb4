-- One link is written, and the others stay.
use Rattle.std.proofs.Common.{◌≡◌, ◌≢◌, ℕ, ◌<◌, ◌++◌, inl, inr, None, Some, List, [], ◌∷◌, get_or, map, set, refl, sym, ap, ◌∙◌, get_or-set_other, get_or-set_same}
use Rattle.std.specs.Prelude.{◌⊎◌, slice_get}
use Rattle.std.proofs.lemmas.Bool.{cases_eq}
use Rattle.cluster_laws.specs.cluster_core.Ranges.{set_at}
use Rattle.cluster_laws.specs.cluster_core.Messages.{Message}
use Rattle.cluster_laws.proofs.cluster_core.Basics.{set_at-other, set_at-same}
use Rattle.cluster_laws.specs.cluster_model.Calls.{Call, Report}
use Rattle.cluster_step.specs.clusters.Inner.Writing.{HasLinkBetween, behind_first, with_link_between}
use Rattle.cluster_step.specs.clusters.Links.{LinkView, empty_link, link_between, message_read, told_on}
use Rattle.coordinator.specs.coord_core.Coordinators.{AreCalls}
use Rattle.cluster_step.specs.clusters.Lines.{AreReports, messages_on}
use Rattle.coordinator.specs.machine_api.Promises.{MessageView, TellsReport}

-- the messages on the link from p to q are these now, and those on the others are what they were
pub record ChangesLine (old new : List (List LinkView)) (p q : ℕ) (messages : List MessageView) : Type 0 where
  pub here : messages_on new p q ≡ messages
  pub column : (j : ℕ) → j ≢ q → messages_on new p j ≡ messages_on old p j
  pub row : (i j : ℕ) → i ≢ p → messages_on new i j ≡ messages_on old i j

module _ (old : List (List LinkView)) (p q : ℕ) (has : HasLinkBetween old p q) (new : List (List LinkView)) (rest : new ≡ with_link_between old p q (link_between new p q)) where
  read_new : (i j : ℕ) → link_between new i j ≡ link_between (with_link_between old p q (link_between new p q)) i j
  read_new i j = ap (λ (l : List (List LinkView)). link_between l i j) rest

  pub line_changes : (messages : List MessageView) → messages_on new p q ≡ messages → ChangesLine old new p q messages
  line_changes messages here = record {
    here = here;
    column = λ j off. ap (λ (l : LinkView). l.messages)
        (read_new p j
        ∙ ap (λ (row : List LinkView). get_or row j empty_link) (get_or-set_same old p (set (get_or old p []) q (link_between new p q)) [] has.from)
        ∙ get_or-set_other (get_or old p []) q j (link_between new p q) empty_link off);
    row = λ i j off. ap (λ (l : LinkView). l.messages)
        (read_new i j ∙ ap (λ (row : List LinkView). get_or row j empty_link) (get_or-set_other old p i (set (get_or old p []) q (link_between new p q)) [] off));
  }

-- one after another
pub then_changes : (old mid new : List (List LinkView)) (p q : ℕ) (one other : List MessageView) → ChangesLine old mid p q one → ChangesLine mid new p q other → ChangesLine old new p q other
then_changes old mid new p q one other first second = record {
  here = second.here;
  column = λ j off. second.column j off ∙ first.column j off;
  row = λ i j off. second.row i j off ∙ first.row i j off;
}

module _ {old new : List (List LinkView)} {p q : ℕ} {messages : List MessageView} (changes : ChangesLine old new p q messages) where
  pub line_kept : (i j : ℕ) → (i ≢ p) ⊎ (j ≢ q) → messages_on new i j ≡ messages_on old i j
  line_kept i j (inl off) = changes.row i j off
  line_kept i j (inr off) = elim (cases_eq i p) [
    | inl same ↦ ap (λ (k : ℕ). messages_on new k j) same ∙ changes.column j off ∙ ap (λ (k : ℕ). messages_on old k j) (sym same)
    | inr other ↦ changes.row i j other
  ]

  -- what did not change did not change anywhere
  pub line_same : messages ≡ messages_on old p q → (i j : ℕ) → messages_on new i j ≡ messages_on old i j
  line_same same i j = elim (cases_eq i p) [
    | inl at_p ↦ elim (cases_eq j q) [
      | inl at_q ↦ (λ k. messages_on new (at_p k) (at_q k)) ∙ changes.here ∙ same ∙ (λ k. messages_on old (sym at_p k) (sym at_q k))
      | inr off ↦ line_kept i j (inr off)
    ]
    | inr off ↦ line_kept i j (inl off)
  ]

  told_kept : (i j : ℕ) → (i ≢ p) ⊎ (j ≢ q) → told_on new i j ≡ told_on old i j
  told_kept i j off = ap (map message_read) (line_kept i j off)

  -- the link of the law that is written is that one
  pub told_set : (link : ℕ → ℕ → List Message) (told : List Message) (n : ℕ) → map message_read messages ≡ told → ((i j : ℕ) → i < n → j < n → link i j ≡ told_on old i j) →
      (i j : ℕ) → i < n → j < n → set_at link p (set_at (link p) q told) i j ≡ told_on new i j
  told_set link told n is all i j low_i low_j = elim (cases_eq i p) [
    | inl at_p ↦
        let row : set_at link p (set_at (link p) q told) i j ≡ set_at (link p) q told j =
        ap (λ (k : ℕ). set_at link p (set_at (link p) q told) k j) at_p ∙ ap (λ (f : ℕ → List Message). f j) (set_at-same link p (set_at (link p) q told))
        in
        elim (cases_eq j q) [
          | inl at_q ↦
              row ∙ ap (set_at (link p) q told) at_q ∙ set_at-same (link p) q told ∙ sym is ∙ ap (map message_read) (sym changes.here) ∙ (λ k. told_on new (sym at_p k) (sym at_q k))
          | inr off ↦ row ∙ set_at-other (link p) q told j off ∙ ap (λ (k : ℕ). link k j) (sym at_p) ∙ all i j low_i low_j ∙ sym (told_kept i j (inr off))
        ]
    | inr off ↦ ap (λ (f : ℕ → List Message). f j) (set_at-other link p (set_at (link p) q told) i off) ∙ all i j low_i low_j ∙ sym (told_kept i j (inl off))
  ]

  pub told_still : (link : ℕ → ℕ → List Message) (n : ℕ) → ((i j : ℕ) → i < n → j < n → (i ≢ p) ⊎ (j ≢ q)) → ((i j : ℕ) → i < n → j < n → link i j ≡ told_on old i j) →
      (i j : ℕ) → i < n → j < n → link i j ≡ told_on new i j
  told_still link n off all i j low_i low_j = all i j low_i low_j ∙ sym (told_kept i j (off i j low_i low_j))

-- ---- the first message, and one more

-- what is left without the first, which there is
pub first_is : (messages : List MessageView) (v : MessageView) → Some v ≡ slice_get messages 0 → messages ≡ v ∷ behind_first messages
first_is [] v is = absurd (cc)
first_is (w ∷ behind) v is = ap (λ (x : MessageView). x ∷ behind) (let e : w ≡ v = cc in e)

pub none_is : (messages : List MessageView) → None ≡ slice_get messages 0 → messages ≡ []
none_is [] is = refl
none_is (w ∷ behind) is = absurd (cc)

pub reports_push : (messages : List MessageView) (reports : List Report) (m : MessageView) (report : Report) → AreReports messages reports → TellsReport m report →
    AreReports (messages ++ m ∷ []) (reports ++ report ∷ [])
reports_push [] [] m report are is = (is, tt)
reports_push [] (one ∷ reports) m report are is = absurd are
reports_push (first ∷ messages) [] m report are is = absurd are
reports_push (first ∷ messages) (one ∷ reports) m report are is = (are.0, reports_push messages reports m report are.1 is)

pub record FirstReport (m : MessageView) (messages : List MessageView) (reports : List Report) : Type 0 where
  pub report : Report
  pub behind : List Report
  pub first : reports ≡ report ∷ behind
  pub told : TellsReport m report
  pub rest : AreReports messages behind

pub first_report : (m : MessageView) (messages : List MessageView) (reports : List Report) → AreReports (m ∷ messages) reports → FirstReport m messages reports
first_report m messages [] are = absurd are
first_report m messages (report ∷ behind) are = record { report = report; behind = behind; first = refl; told = are.0; rest = are.1 }

pub no_report : (reports : List Report) → AreReports [] reports → reports ≡ []
no_report [] are = refl
no_report (report ∷ reports) are = absurd are

pub no_call : (calls : List Call) → AreCalls [] calls → calls ≡ []
no_call [] are = refl
no_call (call ∷ calls) are = absurd are
