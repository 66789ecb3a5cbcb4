-- A number that is read from bytes has these bytes, and a number that was written is read again.
use Rattle.std.proofs.Common.{◌≡◌, ℕ, ◌+◌, ◌^◌, ◌<◌, ◌≤◌, inl, inr, List, length, slice_index, take, drop, sym, ap, arith, length-take, length-drop, get_or-drop, get_or-take}
use Rattle.std.proofs.lemmas.Bool.{cases_lt}
use Rattle.std.proofs.lemmas.List.{get_or_past, length-take-le, drop-drop}
use Rattle.std.proofs.lemmas.Nat.{be_bytes_2, be_bytes_4, be_bytes_8}
use Rattle.byteorder.specs.Endian.{big_number, big_bytes}
use Rattle.byteorder.specs.Numbers.{big_from-take, big_from-lt}
use Rattle.graph_atoms.specs.atom_file.Fields.{field}

-- each number is a byte
abbrev pub IsBytes : List ℕ → Type 0
IsBytes bytes = (k : ℕ) → slice_index bytes k < 256

pub IsBytes-drop : (n : ℕ) (bytes : List ℕ) → IsBytes bytes → IsBytes (drop n bytes)
IsBytes-drop n bytes h = λ k. omega (arith, get_or-drop n bytes k 0, h (n + k))

pub IsBytes-take : (n : ℕ) (bytes : List ℕ) → IsBytes bytes → IsBytes (take n bytes)
IsBytes-take n bytes h = λ k. elim (cases_lt k n) [
  | inl inside ↦ omega (arith, get_or-take n bytes k 0 inside, h k)
  | inr past ↦ omega (arith, get_or_past (take n bytes) k 0 (omega (arith, length-take n bytes)))
]

-- fields of n bytes are written as they are read
abbrev pub IsWidth : ℕ → Type 0
IsWidth n = (bytes : List ℕ) (x : ℕ) → length bytes ≡ n → IsBytes bytes → x ≡ big_number n bytes → big_bytes n x ≡ bytes

pub two : IsWidth 2
two bytes x len h e = be_bytes_2 bytes x len h (omega (arith, e))

pub four : IsWidth 4
four bytes x len h e = be_bytes_4 bytes x len h (omega (arith, e))

pub eight : IsWidth 8
eight bytes x len h e = be_bytes_8 bytes x len h (omega (arith, e))

-- the bytes of a field are those of its number
pub big_bytes-field : (n : ℕ) (bytes : List ℕ) (at : ℕ) → IsWidth n → IsBytes bytes → at + n ≤ length bytes → big_bytes n (field bytes at n) ≡ take n (drop at bytes)
big_bytes-field n bytes at width h within =
    width (take n (drop at bytes)) (field bytes at n) (length-take-le n (drop at bytes) (omega (arith, length-drop at bytes))) (IsBytes-take n (drop at bytes) (IsBytes-drop at bytes h)) (sym (big_from-take 0 n n (drop at bytes) (omega arith)))

-- a field has a number of so many bytes
pub field-lt : (n : ℕ) (bytes : List ℕ) (at : ℕ) → IsBytes bytes → field bytes at n < 256 ^ n
field-lt n bytes at h = big_from-lt 0 n (drop at bytes) (IsBytes-drop at bytes h)

-- a field of what follows a place
pub field-drop : (n : ℕ) (bytes : List ℕ) (at i : ℕ) → field (drop at bytes) i n ≡ field bytes (at + i) n
field-drop n bytes at i = ap (big_number n) (drop-drop i at bytes)
