-- The header of a store: its first 64 bytes.
use Rattle.std.specs.Prelude.{◌≡◌, ℕ, ◌+◌, ◌^◌, ◌<◌, ◌≤◌, ◌==◌, ◌&&◌, if◌then◌else◌, nat_le, nat_lt, List, [], ◌∷◌, ◌++◌, length, take, drop, Option, Some, None, codes}
use Rattle.std.specs.Option.{option_or}
use Rattle.std.specs.Str.{bytes_eq}
use Rattle.byteorder.specs.Endian.{big_bytes, big_number}
use Rattle.store.specs.declared.store_format.header.Header.{Header}
use Rattle.store.specs.declared.store_format.header.ProgramKey.{ProgramKey}
use Rattle.store.specs.declared.store_format.faults.StoreFault.{StoreFault}
use Rattle.store.specs.declared.store_format.faults.StoreFault.TheVariants.{Torn, BadByte, Machines, Graph, Program}
use Rattle.store.specs.store_format.Fields.{field}

-- the word that a store begins with, as a number
abbrev pub store_word : ℕ
store_word = big_number 8 (codes "GLABSTOR")

-- The bytes of a header: the word, version 1, the machines, the program (its algorithm, whether edges have a direction, its
-- source), how many vertices and edges the graph has, and its digest.
abbrev pub store_header : Header → List ℕ
store_header header =
    codes "GLABSTOR" ++ (big_bytes 4 1 ++ (big_bytes 2 header.machines ++ ((header.algorithm ∷ header.directed ∷ []) ++ (big_bytes 8 header.source ++ (big_bytes 4 header.n ++ (big_bytes 4 header.m ++ header.digest.0))))))

-- the n bytes at this place are not all there, or their number is none from `least` to `most`
abbrev pub field_fault : List ℕ → ℕ → ℕ → ℕ → ℕ → Option StoreFault
field_fault bytes at n least most =
    if nat_lt (length bytes) (at + n) then Some (Torn (length bytes))
    else if nat_le least (field bytes at n) && nat_le (field bytes at n) most then None
    else Some (BadByte at)

-- the digest in a header
abbrev pub digest_in : List ℕ → List ℕ
digest_in bytes = take 32 (drop 32 bytes)

-- the program in a header, and that of this one
abbrev pub program_in : List ℕ → ProgramKey
program_in bytes = record { algorithm = field bytes 14 1; directed = field bytes 15 1; source = field bytes 16 8 }

abbrev pub program_of : Header → ProgramKey
program_of header = record { algorithm = header.algorithm; directed = header.directed; source = header.source }

-- the header was written for other machines
abbrev pub machines_fault : Header → List ℕ → Option StoreFault
machines_fault header bytes =
    if field bytes 12 2 == header.machines then None else Some (Machines (field bytes 12 2) header.machines)

-- for another graph
abbrev pub other_graph : Header → List ℕ → Option StoreFault
other_graph header bytes =
    if bytes_eq (digest_in bytes) header.digest.0 && (field bytes 24 4 == header.n) && (field bytes 28 4 == header.m) then None
    else Some (Graph (record { 0 = digest_in bytes }) header.digest)

-- for another program
abbrev pub other_program : Header → List ℕ → Option StoreFault
other_program header bytes =
    if (field bytes 14 1 == header.algorithm) && (field bytes 15 1 == header.directed) && (field bytes 16 8 == header.source) then None
    else Some (Program (program_in bytes) (program_of header))

-- the first bad field of these first bytes of a store
abbrev pub unformed_fault : List ℕ → Option StoreFault
unformed_fault bytes =
    option_or (field_fault bytes 0 8 store_word store_word)
    (option_or (field_fault bytes 8 4 1 1)
    (option_or (field_fault bytes 12 2 1 16)
    (option_or (field_fault bytes 14 1 1 5)
    (option_or (field_fault bytes 15 1 0 1)
    (if nat_lt (length bytes) 64 then Some (Torn (length bytes)) else None)))))

-- what they were written for, where it isn't this header
abbrev pub other_fault : Header → List ℕ → Option StoreFault
other_fault header bytes =
    option_or (machines_fault header bytes) (option_or (other_graph header bytes) (other_program header bytes))

-- the first fault of these first bytes of a store that is to be one for this header
abbrev pub store_header_fault : Header → List ℕ → Option StoreFault
store_header_fault header bytes = option_or (unformed_fault bytes) (other_fault header bytes)

-- each field of a header has a value that a store may have
pub record IsAllowed (header : Header) : Type 0 where
  pub some : 1 ≤ header.machines
  pub machines : header.machines ≤ 16
  pub known : 1 ≤ header.algorithm
  pub algorithm : header.algorithm ≤ 5
  pub directed : header.directed ≤ 1

-- each field has the size of its type, as the numbers of a program have
pub record HeaderFits (header : Header) : Type 0 where
  pub source : header.source < 2 ^ 64
  pub n : header.n < 2 ^ 32
  pub m : header.m < 2 ^ 32
  pub digest : length header.digest.0 ≡ 32
