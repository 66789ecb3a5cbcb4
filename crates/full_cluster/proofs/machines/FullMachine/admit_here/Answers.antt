use Rattle.std.proofs.Common.{◌≡◌, ◌∙◌, ◌+◌, ◌<◌, ℕ, List, map, refl, sym, subst}
use Rattle.std.specs.Option.{option_map}
use Rattle.gl_base.specs.declared.numbers.MachineNo.{MachineNo}
use Rattle.gl_base.specs.declared.numbers.Vertex.{Vertex}
use Rattle.gl_base.specs.declared.scopes.ScopeId.{ScopeId}
use Rattle.full_laws.specs.FullEffects.{flies_full, passes_full}
use Rattle.full_laws.specs.FullMessages as model
use Rattle.full_laws.specs.FullMessages.{Gather}
use Rattle.full_laws.specs.FullParts.{FullPart}
use Rattle.full_cluster.specs.declared.machines.FullMachine.{FullMachine}
use Rattle.full_cluster.specs.declared.messages.FullMessage.{FullMessage}
use Rattle.full_cluster.specs.FullMachines.{IsMachineOf, IsOrderedFor}
use Rattle.full_cluster.specs.FullQueues.{IsMessage, seen_in}
use Rattle.full_cluster.specs.ScopeMaps.{AreOnce, value_of}
use Rattle.full_cluster.proofs.machines.FullMachine.admit_here.Goals as goal

pub fly-requires-clause-once : goal.fly-requires-clause-once
fly-requires-clause-once c =
    let same : c.reserve.new.self.entries.items ≡ c.args.self.now.flights.entries.items = c.reserve.ensures.same ∙ (λ k. (c.prepare.ensures.flights.flights k).entries.items) in
    subst (λ (es : List (ScopeId × Vertex)). AreOnce es) (sym same) c.requires.once.flights

pub fly-requires-clause-none : goal.fly-requires-clause-none
fly-requires-clause-none c =
    let same : c.reserve.new.self.entries.items ≡ c.args.self.now.flights.entries.items = c.reserve.ensures.same ∙ (λ k. (c.prepare.ensures.flights.flights k).entries.items) in
    (λ k. value_of (same k) (record { home = c.prepare.ensures.still.me k; serial = c.prepare.ensures.flights.serial k })) ∙ c.requires.new.flight

pub fly-requires-clause-serial : goal.fly-requires-clause-serial
fly-requires-clause-serial c = subst (λ (n : ℕ). n + 1 < 18446744073709551616) (sym c.prepare.ensures.flights.serial) c.requires.serial

pub fly-requires-clause-flying : goal.fly-requires-clause-flying
fly-requires-clause-flying c = subst (λ (n : ℕ). n + 1 < 18446744073709551616) (sym c.prepare.ensures.flights.flying) c.requires.flying

pub returns-clause-admitted : goal.returns-clause-admitted
returns-clause-admitted c = λ st part divided is.
    let sent = c.first_message-message.ensures in
    let rest = map (λ (b : MachineNo). b.0) c.args.rest.items in
    let v = c.args.v.0 in
    let s : ScopeId = record { home = c.args.self.now.me; serial = c.args.self.now.serial } in
    let m : model.FullMessage = Gather s v rest (seen_in sent.seen.items) in
    let before : IsMachineOf st c.prepare.new.self part = c.prepare.ensures.same st part is in
    let ready : FullMachine = record c.prepare.new.self { flights = c.reserve.new.self } in
    let there : IsMachineOf st ready part =
    record {
      numbers = before.numbers;
      locks = before.locks;
      lock_count = before.lock_count;
      log = before.log;
      serial = before.serial;
      flying = before.flying;
      flights = subst (λ (es : List (ScopeId × Vertex)). (t : ScopeId) → part.flight t ≡ option_map (λ (u : Vertex). u.0) (value_of es t)) (sym c.reserve.ensures.same) before.flights;
      flights_once = subst (λ (es : List (ScopeId × Vertex)). AreOnce es) (sym c.reserve.ensures.same) before.flights_once;
      stands = before.stands;
      stands_once = before.stands_once;
      ready = before.ready;
      ready_once = before.ready_once;
      out = before.out;
    } in
    let me : c.fly.new.self.me ≡ c.args.self.now.me = (λ k. (c.fly.ensures.same k).me) ∙ c.prepare.ensures.still.me in
    let ordered : IsOrderedFor st c.fly.new.self.me.0 c.first_message-message.result c.in_ok-part.part.items =
    subst (λ (a : MachineNo). IsOrderedFor st a.0 c.first_message-message.result c.in_ok-part.part.items) (sym me) (c.in_ok-part.ensures.ordered st divided) in
    let says : IsMessage st c.first_message-message.result m = subst (λ (x : FullMessage). IsMessage st x m) (sym sent.is) refl in
    let flown : FullPart = flies_full (record { home = c.prepare.new.self.me; serial = c.prepare.new.self.serial }) v part in
    subst (IsMachineOf st c.receive.new.self)
    (λ k. passes_full st (me k).0 s v 0 rest (seen_in (sent.none k)) (flies_full (record { home = c.prepare.ensures.still.me k; serial = c.prepare.ensures.flights.serial k }) v part))
    (c.receive.ensures.received st flown m (c.fly.ensures.flies st part there) says ordered tt)
