-- The records of a store, read from front to back: gates, lengths and bodies.
use Rattle.std.specs.Prelude.{ℕ, zero, suc, ◌+◌, ◌==◌, if◌then◌else◌, nat_lt, List, [], ◌∷◌, ◌++◌, length, take, drop, Option, Some, None, Result, Ok, Err}
use Rattle.byteorder.specs.Endian.{big_bytes}
use Rattle.store.specs.declared.store_format.header.Header.{Header}
use Rattle.store.specs.declared.store_format.faults.StoreFault.{StoreFault}
use Rattle.store.specs.declared.store_format.faults.StoreFault.TheVariants.{Torn, BadByte}
use Rattle.store.specs.store_format.Fields.{field}
use Rattle.store.specs.store_format.Bodies.{body_size, body_fault}

-- Behind an open gate, whose byte is 1, stand the length of a body, the body and the next gate.

-- the length
abbrev pub length_in : List ℕ → ℕ
length_in behind = field behind 0 8

-- the body
abbrev pub body_in : List ℕ → List ℕ
body_in behind = take (length_in behind) (drop 8 behind)

-- a place in a body, as a place in the store
abbrev pub bad_byte : ℕ → Option ℕ → Option StoreFault
bad_byte at (Some place) = Some (BadByte (at + place))
bad_byte at None = None

-- What is wrong with the record of snapshot `number` in the bytes behind its gate, which begin at this place of the store. It is
-- looked at in this order: whether its length, number and count of entries are there; the length; whether the body and the next
-- gate are there; the body.
abbrev pub stored_fault : Header → ℕ → ℕ → List ℕ → Option StoreFault
stored_fault header number at behind =
    if nat_lt (length behind) 16 then Some (Torn (at + length behind))
    else if length_in behind == body_size header (field behind 12 4) then
    (if nat_lt (length behind) (9 + length_in behind) then Some (Torn (at + length behind))
    else bad_byte (at + 8) (body_fault header number (body_in behind)))
    else Some (BadByte at)

-- this body, and those behind it
abbrev pub with_body : List ℕ → Result (List (List ℕ)) StoreFault → Result (List (List ℕ)) StoreFault
with_body body (Ok bodies) = Ok (body ∷ bodies)
with_body body (Err fault) = Err fault

-- the fault, or else this body and those behind it
abbrev pub unless_bad : Option StoreFault → List ℕ → Result (List (List ℕ)) StoreFault → Result (List (List ℕ)) StoreFault
unless_bad (Some fault) body more = Err fault
unless_bad None body more = with_body body more

-- The bodies of the records in these bytes, which begin at this place of the store, or else their first fault. The next gate
-- stands so many bytes further on, and the next snapshot has this number. The first gate that isn't open ends the records.
abbrev pub bodies_from : Header → ℕ → ℕ → ℕ → List ℕ → Result (List (List ℕ)) StoreFault
bodies_from header number at zero [] = Err (Torn at)
bodies_from header number at (suc skip) [] = Err (Torn at)
bodies_from header number at zero (gate ∷ behind) =
    if gate == 1 then unless_bad (stored_fault header number (at + 1) behind) (body_in behind)
    (bodies_from header (number + 1) (at + 1) (8 + length_in behind) behind)
    else Ok []
bodies_from header number at (suc skip) (byte ∷ bytes) = bodies_from header number (at + 1) skip bytes

-- the bytes of a record behind its gate, with the closed gate that follows
abbrev pub stored_bytes : List ℕ → List ℕ
stored_bytes body = big_bytes 8 (length body) ++ (body ++ 0 ∷ [])
