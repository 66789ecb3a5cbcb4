-- What is promised of one that stands for machines of the law is promised of another that stands for the same ones.
use Rattle.std.proofs.Common.{ℕ}
use Rattle.coordinator.specs.machine_api.AtOnce.{HasUpdatedAtOnce}
use Rattle.coordinator.specs.machine_api.InTurn.{HasGrantedInTurn}
use Rattle.coordinator.specs.machine_api.Promises.{HasHeard, HasReceived, IsReporting, Machine, MayHearCall, MayReceiveFirst, OfEach, SendsItsFirst, Setting}
use Rattle.wire.specs.declared.wire_msgs.messages.Message.{Message}

module _ {M N : Type 0} (one : Setting → ℕ → Machine → M → Type 0) (other : Setting → ℕ → Machine → N → Type 0) where
  -- whatever machine of the law the one is, the other is too
  abbrev pub StandsAs : M → N → Type 0
  StandsAs x y = (st : Setting) (a : ℕ) (m : Machine) → one st a m x → other st a m y

  pub may_receive : (x : M) (y : N) → StandsAs x y → (p : ℕ) (message : Message) → MayReceiveFirst one x p message → MayReceiveFirst other y p message
  may_receive x y same p message may =
      let front = may.3 in (may.0, may.1, may.2, record { setting = front.setting; going = front.going; machine = front.machine; here = same _ _ _ front.here; behind = front.behind; first = front.first })

  pub may_hear : (x : M) (y : N) → StandsAs x y → (message : Message) → MayHearCall one x message → MayHearCall other y message
  may_hear x y same message may =
      let front = may.4 in (may.0, may.1, may.2, may.3, record { setting = front.setting; going = front.going; machine = front.machine; here = same _ _ _ front.here; told = front.told; behind = front.behind; first = front.first })

module _ {M N : Type 0} (one : Setting → ℕ → Machine → M → Type 0) (other : Setting → ℕ → Machine → N → Type 0) (x new : M) (y renewed : N) (back : StandsAs other one y x) (on : StandsAs one other new renewed) where
  pub updated_as : (v ticket : ℕ) → HasUpdatedAtOnce one x v ticket new → HasUpdatedAtOnce other y v ticket renewed
  updated_as v ticket has st a m snap is = let done = has st a m snap (back st a m is) in record { may = done.may; after = done.after; done = done.done; here = on st a done.after done.here }

  pub granted_as : (v : ℕ) → HasGrantedInTurn one x v new → HasGrantedInTurn other y v renewed
  granted_as v has = (has.0, λ st a m snap is. let done = has.1 st a m snap (back st a m is) in record { after = done.after; done = done.done; here = on st a done.after done.here })

  pub received_as : (p : ℕ) (message : Message) → HasReceived one x p message new → HasReceived other y p message renewed
  received_as p message has st c a front = on st a _ (has st c a (record { setting = front.setting; going = front.going; machine = front.machine; here = back st a _ front.here; behind = front.behind; first = front.first }))

  pub heard_as : (message : Message) → HasHeard one x message new → HasHeard other y message renewed
  heard_as message has st c a call front = on st a _ (has st c a call (record { setting = front.setting; going = front.going; machine = front.machine; here = back st a _ front.here; told = front.told; behind = front.behind; first = front.first }))

  pub sent_as : (q : ℕ) (message : Message) → OfEach one x (SendsItsFirst one q message new) → OfEach other y (SendsItsFirst other q message renewed)
  sent_as q message has st a m snap is = let sent = has st a m snap (back st a m is) in record { behind = sent.behind; first = sent.first; after = on st a _ sent.after }

  pub reported_as : (message : Message) → OfEach one x (IsReporting one message new) → OfEach other y (IsReporting other message renewed)
  reported_as message has st a m snap is =
      let sent = has st a m snap (back st a m is) in record { report = sent.report; behind = sent.behind; first = sent.first; told = sent.told; after = on st a _ sent.after }
