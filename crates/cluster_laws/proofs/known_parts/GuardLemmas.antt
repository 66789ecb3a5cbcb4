-- What may happen at a part may happen at another one that looks alike.
use Rattle.std.proofs.Common.{◌≡◌, ℕ, ◌<◌, sym, ap, ◌∙◌, subst}
use Rattle.gl_base.specs.declared.scopes.Datum.{Datum}
use Rattle.gl_base.specs.declared.scopes.ScopeId.{ScopeId}
use Rattle.cluster_laws.specs.cluster_core.Actions.{IsItsTurn, MayAdmit, MayGrant, MayMark, MaySend, MayUpdate}
use Rattle.cluster_laws.specs.cluster_core.Parts.{Part}
use Rattle.cluster_laws.specs.cluster_core.Settings.{Chromatic, Engine, IsSetting, Locking, Setting}
use Rattle.cluster_laws.specs.known_parts.Alike.{LooksAlike, with_copies}
use Rattle.cluster_laws.proofs.known_parts.SeenLemmas.{own_seen, seen_of}

pub alike_turned : (st : Setting) (a : ℕ) (one other : Part) → LooksAlike st a one other → LooksAlike st a other one
alike_turned st a one other alike = record {
  rest = λ i. with_copies other.datum other.edge (sym alike.rest i);
  vertices = λ v low part. sym (alike.vertices v low part);
  edges = λ e low. sym (alike.edges e low);
}

turn_same : (engine : Engine) (pipeline v : ℕ) (d : ℕ → Datum) (n : ℕ → ℕ) (part : Part) → IsItsTurn engine pipeline v (with_copies d n part) → IsItsTurn engine pipeline v part
turn_same Locking pipeline v d n part turn = turn
turn_same (Chromatic colour colours) pipeline v d n part turn = turn

module _ (st : Setting) (a : ℕ) (one other : Part) (alike : LooksAlike st a one other) where
  -- what may happen at the part with other numbers may at the part
  by_rest : (may : Part → Type 0) → (may (with_copies one.datum one.edge other) → may other) → may one → may other
  by_rest may so it = so (subst may alike.rest it)

  pub admit_may : (v : ℕ) → MayAdmit st a v one → MayAdmit st a v other
  admit_may v may = by_rest (MayAdmit st a v)
      (λ it. record { vertex = it.vertex; owned = it.owned; due = it.due; fresh = it.fresh; turn = turn_same st.engine st.pipeline v one.datum one.edge other it.turn })
      may

  pub grant_may : (x : ℕ) → MayGrant st a x one → MayGrant st a x other
  grant_may x may = by_rest (MayGrant st a x)
      (λ it. record { vertex = it.vertex; owned = it.owned; claim = it.claim; behind = it.behind; first = it.first; together = it.together })
      may

  pub update_may : (s : ScopeId) (left : ℕ) → MayUpdate s one left → MayUpdate s other left
  update_may s left may = by_rest (λ p. MayUpdate s p left)
      (λ it. record { vertex = it.vertex; flight = it.flight; ready = it.ready; not_pending = it.not_pending; task = it.task; ticket = it.ticket })
      may

  pub mark_may : (s : ScopeId) → MayMark s one → MayMark s other
  mark_may s may = by_rest (MayMark s)
      (λ it. record { vertex = it.vertex; flight = it.flight; ready = it.ready; pending = it.pending })
      may

  pub send_may : IsSetting st → MaySend st a one → MaySend st a other
  send_may is may =
      let known : one.known ≡ other.known = ap (λ (p : Part). p.known) alike.rest in
      let sent : one.sent ≡ other.sent = ap (λ (p : Part). p.sent) alike.rest in
      record {
        begun = subst (λ (k : ℕ). st.base < k) known may.begun;
        marked = λ v low own. ap (λ (x : Datum). x.mark) (sym (own_seen st a is one.datum one.edge other (seen_of st a one other alike) v low own)) ∙ may.marked v low own ∙ known;
        unsent = subst (λ (k : ℕ). k < other.known) sent (subst (λ (k : ℕ). one.sent < k) known may.unsent);
      }
