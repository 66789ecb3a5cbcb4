-- Fronts of a text that are appended one after another.
use Rattle.std.proofs.Common.{◌≡◌, ℕ, ◌+◌, ◌-◌, ◌≤◌, List, [], ◌++◌, Option, take, drop, length, sym, ap, ◌∙◌, subst, arith, length-drop, append_assoc, append-nil}
use Rattle.std.proofs.Math.Seq.{take-add, take-length, take-append_seam}
use Rattle.std.specs.Io.KnownBytes.{Appends}
use Rattle.std.proofs.lemmas.List.{take-append-drop}
use Rattle.std.proofs.KnownBytes.{Appends-trans}
use Rattle.gl_outside.specs.Faults.{Rose}
use Rattle.gl_outside.specs.Fronts.{AppendsFront}

-- what is left from a place on, as a slice has it
rest_of : (done : ℕ) (bytes : List ℕ) → take (length bytes - done) (drop done bytes) ≡ drop done bytes
rest_of done bytes = ap (λ n. take n (drop done bytes)) (sym (length-drop done bytes)) ∙ take-length (drop done bytes)

-- a front and then some of what follows it are a longer front
pub Appends-more : (old mid new : Option (List ℕ)) (done more : ℕ) (bytes : List ℕ)
    → Appends old mid (take done bytes) → Appends mid new (take more (take (length bytes - done) (drop done bytes)))
    → Appends old new (take (done + more) bytes)
Appends-more old mid new done more bytes p q =
    let r : Appends mid new (take more (drop done bytes)) = rw rest_of at q in
    subst (Appends old new) (sym (take-add done more bytes)) (Appends-trans old mid new (take done bytes) (take more (drop done bytes)) p r)

-- what was written, what is gathered and what is left are the whole text
pub record Printing (old now : Option (List ℕ)) (piece rest text : List ℕ) : Type 0 where
  pub written : List ℕ
  pub held : Appends old now written
  pub whole : written ++ (piece ++ rest) ≡ text

-- a line is gathered
pub Printing-line : (old now : Option (List ℕ)) (piece line piece' rest text : List ℕ) → piece' ≡ piece ++ line
    → Printing old now piece (line ++ rest) text → Printing old now piece' rest text
Printing-line old now piece line piece' rest text e p =
    record {
      written = p.written;
      held = p.held;
      whole = ap (λ l. p.written ++ l) (ap (λ l. l ++ rest) e ∙ append_assoc piece line rest) ∙ p.whole;
    }

-- some of the piece is written
pub Printing-moved : (old mid now : Option (List ℕ)) (piece moved piece' rest text : List ℕ) → piece ≡ moved ++ piece'
    → Appends mid now moved → Printing old mid piece rest text → Printing old now piece' rest text
Printing-moved old mid now piece moved piece' rest text e q p =
    record {
      written = p.written ++ moved;
      held = Appends-trans old mid now p.written moved p.held q;
      whole =
          append_assoc p.written moved (piece' ++ rest)
          ∙ ap (λ l. p.written ++ l) (sym (append_assoc moved piece' rest) ∙ ap (λ l. l ++ rest) (sym e))
          ∙ p.whole;
    }

-- the last piece is written
pub Printing-all : (old mid now : Option (List ℕ)) (piece text : List ℕ) → Appends mid now piece → Printing old mid piece [] text → Appends old now text
Printing-all old mid now piece text q p =
    subst (Appends old now) (ap (λ l. p.written ++ l) (sym (append-nil piece)) ∙ p.whole) (Appends-trans old mid now p.written piece p.held q)

-- what was written is a front
pub Printing-front : (old now : Option (List ℕ)) (piece rest text : List ℕ) → Printing old now piece rest text → AppendsFront old now text
Printing-front old now piece rest text p =
    (length p.written, subst (Appends old now) (sym (take-append_seam p.written (piece ++ rest)) ∙ ap (take (length p.written)) p.whole) p.held)

-- what was written and a front of the piece are a front
pub Printing-more : (old mid now : Option (List ℕ)) (piece rest text : List ℕ) → AppendsFront mid now piece → Printing old mid piece rest text → AppendsFront old now text
Printing-more old mid now piece rest text q p =
    let front = take q.0 piece in
    let back = drop q.0 piece in
    Printing-front old now back rest text
    (Printing-moved old mid now piece front back rest text (sym (take-append-drop q.0 piece)) q.1 p)

-- a count that rose in a later call rose
pub Rose-later : (a b c : ℕ) → a ≤ b → Rose b c → Rose a c
Rose-later a b c p q top = omega (arith, q top)
