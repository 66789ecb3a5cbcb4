-- What printing the answer and the order leaves.
use Rattle.std.specs.Prelude.{◌≡◌, ◌⊎◌, ℕ, Bool, List, ⊤, Option, Result, Ok, Err}
use Rattle.std.specs.Io.KnownBytes.{Appends}
use Rattle.std.specs.declared.alloc.Global.{Global}
use Rattle.std.specs.declared.vec.Vec.{Vec}
use Rattle.graph_text.specs.declared.generate.making.Writing.{Writing}
use Rattle.graph_text.specs.declared.generate.making.Writing.TheVariants.{WriteFault, NoMemory}
use Rattle.graph_text.specs.order_text.Answers.{answer_text}
use Rattle.graph_text.specs.order_text.Orders.{order_text}
use Rattle.engine_cli.specs.declared.running.Prepared.{Prepared}
use Rattle.engine_cli.specs.Answer.{Printed, report_of}
use Rattle.engine_cli.specs.StatusMeanings.{FailsAtOrder, FailsAtOut, LeavesOrder, Moment}

-- what is printed of a run
abbrev pub printed_of : Bool → Prepared → Printed
printed_of report prepared =
    let text = answer_text prepared.job.algorithm prepared.graph.ids prepared.run.numbers.items in
    record {
      answer = text;
      report = report_of report prepared.graph prepared.run.numbers.items text;
      lines = order_text prepared.graph.ids prepared.run.order.items;
    }

-- all was printed, and what is reported is handed back; or the order's file or `out` failed
abbrev pub Prints : Result (Vec ℕ Global) Writing → Option (List ℕ) → Printed → Moment → Moment → Type 0
Prints (Ok bytes) order printed before now =
    (bytes.items ≡ printed.report) × Appends before.held now.held printed.answer × LeavesOrder order before now printed.lines
Prints (Err WriteFault) order printed before now = FailsAtOrder order before now printed ⊎ FailsAtOut order before now printed
Prints (Err NoMemory) order printed before now = ⊤
