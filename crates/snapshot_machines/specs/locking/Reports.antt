-- What waits to be sent to the coordinator.
use Rattle.std.specs.Prelude.{Bool, List, [], length, nat_lt, pred, ⊤, ℕ, ◌+◌, ◌++◌, ◌∷◌}
use Rattle.cluster_laws.specs.cluster_model.Calls.{Report}
use Rattle.coordinator.specs.machine_api.Promises.{MessageView, TellsReport}

-- the messages, the first first, and for how many more there is room
pub record ReportsView : Type 0 where
  pub messages : List MessageView
  pub room : ℕ

-- one more waits
abbrev pub with_report : MessageView → ReportsView → ReportsView
with_report m r = record { messages = r.messages ++ m ∷ []; room = pred r.room }

-- behind the first one, where one waits
abbrev pub reports_left : List MessageView → ℕ → ReportsView
reports_left [] room = record { messages = []; room = room }
reports_left (m ∷ behind) room = record { messages = behind; room = room + 1 }

-- the first one is gone
abbrev pub without_report : ReportsView → ReportsView
without_report r = reports_left r.messages r.room

-- one waits
abbrev pub has_report : ReportsView → Bool
has_report r = nat_lt 0 (length r.messages)

-- the messages are these reports, one by one
abbrev pub AreToldReports : List MessageView → List Report → Type 0
AreToldReports [] [] = ⊤
AreToldReports [] (report ∷ reports) = ⊥
AreToldReports (m ∷ messages) [] = ⊥
AreToldReports (m ∷ messages) (report ∷ reports) = TellsReport m report × AreToldReports messages reports
