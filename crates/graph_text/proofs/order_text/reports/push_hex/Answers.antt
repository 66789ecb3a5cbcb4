use Rattle.std.proofs.Common.{rules, ◌≡◌, ◌∙◌}
use Rattle.graph_text.specs.order_text.Reports.{hex_text}
use Rattle.graph_text.proofs.order_text.HexText.{encode_lower-is-hex_text}
use Rattle.graph_text.proofs.order_text.reports.push_hex.Goals as goal

pub returns : goal.returns
returns c =
    let digits : c.as_bytes.result.now ≡ hex_text c.args.bytes.now =
    c.as_bytes.ensures.value ∙ c.in_ok-digits.ensures ∙ encode_lower-is-hex_text c.args.bytes.now in
    search (rules, digits)
