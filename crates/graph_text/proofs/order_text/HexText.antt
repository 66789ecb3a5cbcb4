-- The hexadecimal text of the crate `hex` is that of the report.
use Rattle.std.proofs.Common.{◌≡◌, ℕ, List, [], ◌∷◌, ◌/◌, ◌%◌, refl, ap}
use Rattle.hex.specs.Hex.{encode_lower, encode_with}
use Rattle.graph_text.specs.order_text.Reports.{hex_digit, hex_text}

pub encode_lower-is-hex_text : (bytes : List ℕ) → encode_lower bytes ≡ hex_text bytes
unfolding encode_with
encode_lower-is-hex_text [] = refl
encode_lower-is-hex_text (b ∷ rest) = ap (λ text. hex_digit (b / 16) ∷ hex_digit (b % 16) ∷ text) (encode_lower-is-hex_text rest)
