-- One update from its guard to what it leaves.
use Rattle.std.proofs.Common.{rules, ◌≡◌, ℕ, ◌==◌, Bool, true, if◌then◌else◌, Option, Some, None, List, refl, sym, ap, ◌∙◌, subst, inl, inr, true≢false}
use Rattle.std.specs.Prelude.{is_some, length, OnOk, Result, Ok, Err}
use Rattle.std.proofs.lemmas.Bool.{cases_eq, eq-eqb, ne_eqb}
use Rattle.gl_base.specs.declared.entries.Entry.TheVariants.{Go}
use Rattle.gl_base.specs.declared.numbers.MachineNo.{MachineNo}
use Rattle.gl_base.specs.declared.numbers.Vertex.{Vertex}
use Rattle.gl_base.specs.declared.scopes.ScopeId.{ScopeId}
use Rattle.local_graph.specs.declared.sides.Side.{Side}
use Rattle.local_graph.specs.declared.works.Work.{Work}
use Rattle.local_graph.specs.Works.{IsRow}
use Rattle.update_api.specs.Updates.{Update}
use Rattle.update_api.specs.declared.links.Link.{Link}
use Rattle.machine_core.specs.declared.machine_parts.cores.Core.{Core}
use Rattle.machine_core.specs.machine_parts.Parts.{number_of}
use Rattle.machine_core.specs.declared.machine_updates.reserving.Prepared.{Prepared}
use Rattle.machine_core.specs.machine_turns.Turns.{IsOrderly, LocalView, IsRowIn, HasEachRow, IsLocalOf, IsOut, MayUpdate, HasMadeUpdate, HasOnlyMadeRoom, Setting, IsPartOf, SameSettings, part_of, updated, is_own, links_at, sides_at}
use Rattle.machine_core.specs.machine_turns.Inner.Taking.{CanBeTaken, HasItsRow, IsReserved, HasCompleted}

-- what follows from a value follows where there is one
pub on_ok : {T E : Type 0} {A B : Type 0} (r : Result T E) → (A → B) → OnOk r A → OnOk r B
on_ok (Ok x) f a = f a
on_ok (Err e) f a = a

abbrev pub may_update : (m : Core) (s : ScopeId) (v : Vertex) → CanBeTaken m s v → MayUpdate s (part_of m) 1
may_update m s v can =
    record {
      vertex = v.0;
      flight = ap number_of can.flight;
      ready = can.ready;
      not_pending = can.not_pending;
      task = can.task;
      ticket = search rules;
    }

-- the room for a commit is there still while rows alone change
pub reserved_still : (old new : Core) (s : ScopeId) (v : Vertex) (ps : List Prepared)
    → new ≡ record old { numbers = record old.numbers { local = record old.numbers.local { rows = new.numbers.local.rows } } }
    → IsReserved old s v ps → IsReserved new s v ps
reserved_still old new s v ps rest is = subst (λ (m : Core). IsReserved m s v ps) (sym rest) (record { can = is.can; told = is.told; room = is.room; few = is.few; version = is.version })

-- A machine, the same with room for the commit, the same while the work is out, and the same behind that.
module _ (m roomy out new : Core) (w : Work) (f : ScopeId) (v : Vertex) (scope : w.scope ≡ f) (vertex : w.vertex ≡ v) (room : HasOnlyMadeRoom m roomy)
    (rest : out ≡ record roomy { numbers = record roomy.numbers { local = record roomy.numbers.local { rows = out.numbers.local.rows } } }) where
  -- the row that was taken has its links
  pub row_taken : links_at roomy.numbers.local v.0 ≡ Some w.row.links.items → is_own m.numbers.local v.0 ≡ true → HasEachRow m.numbers.local → IsRow w.row.links.items (length (sides_at out.numbers.local w.vertex.0))
  row_taken stood own rows =
      let at : links_at m.numbers.local v.0 ≡ Some w.row.links.items = sym (ap (λ (k : Core). links_at k.numbers.local v.0) room.rest) ∙ stood in
      let sides : sides_at out.numbers.local w.vertex.0 ≡ sides_at m.numbers.local v.0 =
      ap (λ (u : Vertex). sides_at out.numbers.local u.0) vertex ∙ ap (λ (k : Core). sides_at k.numbers.local v.0) rest ∙ ap (λ (k : Core). sides_at k.numbers.local v.0) room.rest in
      subst (λ (ss : List Side). IsRow w.row.links.items (length ss)) (sym sides) (subst (λ (o : Option (List Link)). IsRowIn o (length (sides_at m.numbers.local v.0))) at (rows v.0 own))

  -- each row is as before
  pub links_same : links_at roomy.numbers.local v.0 ≡ Some w.row.links.items
      → ((x : ℕ) → links_at out.numbers.local x ≡ (if x == v.0 then None else links_at roomy.numbers.local x))
      → ((x : ℕ) → links_at new.numbers.local x ≡ (if x == w.vertex.0 then Some w.row.links.items else links_at out.numbers.local x))
      → (x : ℕ) → links_at new.numbers.local x ≡ links_at m.numbers.local x
  links_same stood taken back x = elim (cases_eq x w.vertex.0) [
    | inl here ↦
        let at : x ≡ v.0 = here ∙ ap (λ (u : Vertex). u.0) vertex in
        back x ∙ ap (λ (b : Bool). if b then Some w.row.links.items else links_at out.numbers.local x) (eq-eqb x w.vertex.0 here)
        ∙ sym stood ∙ ap (λ (k : Core). links_at k.numbers.local v.0) room.rest ∙ ap (links_at m.numbers.local) (sym at)
    | inr off ↦
        let elsewhere : (x == v.0) ≡ (x == w.vertex.0) = ap (λ (u : Vertex). x == u.0) (sym vertex) in
        back x ∙ ap (λ (b : Bool). if b then Some w.row.links.items else links_at out.numbers.local x) (ne_eqb x w.vertex.0 off)
        ∙ taken x ∙ ap (λ (b : Bool). if b then None else links_at roomy.numbers.local x) (elsewhere ∙ ne_eqb x w.vertex.0 off)
        ∙ ap (λ (k : Core). links_at k.numbers.local x) room.rest
  ]

  -- but for data, rows and numbers of edges the graph here is as before
  pub local_same : new.numbers.local ≡ record out.numbers.local { kept = new.numbers.local.kept; rows = new.numbers.local.rows; numbers = new.numbers.local.numbers }
      → new.numbers.local ≡ record m.numbers.local { kept = new.numbers.local.kept; rows = new.numbers.local.rows; numbers = new.numbers.local.numbers }
  local_same local =
      let with : Core → LocalView = λ k. record k.numbers.local { kept = new.numbers.local.kept; rows = new.numbers.local.rows; numbers = new.numbers.local.numbers } in
      local ∙ ap with rest ∙ ap with room.rest

  -- each row is in again
  pub rows_in : new.numbers.local ≡ record out.numbers.local { kept = new.numbers.local.kept; rows = new.numbers.local.rows; numbers = new.numbers.local.numbers }
      → ((x : ℕ) → links_at new.numbers.local x ≡ links_at m.numbers.local x)
      → ((x : ℕ) → is_own new.numbers.local x ≡ is_own out.numbers.local x) → HasEachRow m.numbers.local → HasEachRow new.numbers.local
  rows_in local same own rows x is_here =
      let owned : is_own m.numbers.local x ≡ true =
      sym (own x ∙ ap (λ (k : Core). is_own k.numbers.local x) rest ∙ ap (λ (k : Core). is_own k.numbers.local x) room.rest) ∙ is_here in
      let sides : sides_at new.numbers.local x ≡ sides_at m.numbers.local x = ap (λ (l : LocalView). sides_at l x) (local_same local) in
      subst (λ (ss : List Side). IsRowIn (links_at new.numbers.local x) (length ss)) (sym sides)
      (subst (λ (o : Option (List Link)). IsRowIn o (length (sides_at m.numbers.local x))) (sym (same x)) (rows x owned))

  -- the update is made
  pub has_made : (p : Update) (ticket : ℕ) → IsOrderly m → CanBeTaken m f v → IsOrderly out → IsOut out w → part_of out ≡ part_of roomy → part_of roomy ≡ part_of m
      → SameSettings m roomy → SameSettings roomy out → ((st : Setting) → IsPartOf st roomy → HasItsRow st out w)
      → HasCompleted p out new w ticket → HasMadeUpdate p m new f ticket
  has_made p ticket order can order_out is_out part_out part_room settings_room settings_out row completed =
      let at_home : w.scope.home ≡ out.numbers.local.me = (order_out.flights.given w.scope w.vertex is_out.flight).0 ∙ order_out.flights.home in
      let part = part_out ∙ part_room in
      record {
        may = may_update m f v can;
        home = (order.flights.given f v can.flight).0 ∙ order.flights.home;
        after = λ st setting here program.
            completed st setting (settings_out st (settings_room st here)) (row st (settings_room st here)) program
            ∙ ap (λ (a : MachineNo). updated st a.0 w.scope w.vertex.0 (Go w.scope.home w.vertex ticket) (part_of out)) (sym at_home)
            ∙ (λ i. updated st (scope i).home.0 (scope i) (vertex i).0 (Go (scope i).home (vertex i) ticket) (part i));
      }

-- ---- rows of their own

pub row_in : (st : Setting) (l : LocalView) (v : ℕ) → IsLocalOf st l → is_own l v ≡ true → (o : Option (List Link)) → links_at l v ≡ o → is_some o ≡ true → IsRowIn o (length (sides_at l v))
row_in st l v is own None at in_there = true≢false (sym in_there)
row_in st l v is own (Some links) at in_there = (is.rows v links own at).row

pub is_in : (o : Option (List Link)) (many : ℕ) → IsRowIn o many → is_some o ≡ true
is_in None many row = absurd row
is_in (Some links) many row = refl
