use Rattle.std.proofs.Common.{◌≡◌, ℕ, ◌<◌, false, slice_index_or}
use Rattle.gl_base.specs.declared.scopes.ScopeId.{ScopeId}
use Rattle.gl_base.specs.scope_lists.Scopes.{is_scope}
use Rattle.full_cluster.proofs.scope_maps.place_of.Given as goal

abbrev pub invariant-loop-place : goal.invariant-loop-place
invariant-loop-place g l = (k : ℕ) (d : ScopeId × g.row.T.Denot) → k < l.place → is_scope (slice_index_or l.entries k d).0 l.scope ≡ false
