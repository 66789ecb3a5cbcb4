-- Records are read as they were written.
use Rattle.std.proofs.Common.{◌≡◌, ℕ, ◌+◌, ◌^◌, ◌<◌, ◌≤◌, List, [], ◌∷◌, ◌++◌, length, slice_index, take, drop, refl, sym, ap, ◌∙◌, arith}
use Rattle.std.proofs.Math.Seq.{take-add}
use Rattle.std.proofs.lemmas.List.{drop-drop}
use Rattle.byteorder.specs.Endian.{big_bytes}
use Rattle.byteorder.specs.Numbers.{big_number-reads_back}
use Rattle.gl_base.specs.declared.atoms.VertexLine.{VertexLine}
use Rattle.gl_base.specs.declared.atoms.GhostLine.{GhostLine}
use Rattle.gl_base.specs.declared.atoms.EdgeLine.{EdgeLine}
use Rattle.graph_atoms.specs.atom_file.Fields.{field}
use Rattle.graph_atoms.specs.atom_file.Atoms.{vertex_record, ghost_record, edge_record, VertexLineFits, GhostLineFits, EdgeLineFits}
use Rattle.graph_atoms.specs.atom_file.Views.{vertex_at, ghost_at, edge_at}
use Rattle.graph_atoms.proofs.atom_file.FieldLemmas.{IsBytes, two, four, eight, big_bytes-field, field-lt}

-- how records of a kind are written and read: what is read is written as it stood, and what is written is read
pub record IsForm {T : Type 0} (tag size : ℕ) (number : T → ℕ) (Fits : T → Type 0) (write : T → List ℕ) (read : List ℕ → T) : Type 0 where
  pub some : 5 ≤ size
  pub len : (x : T) → length (write x) ≡ size
  pub head : (x : T) (rest : List ℕ) → slice_index (write x ++ rest) 0 ≡ tag
  pub key : (bytes : List ℕ) → number (read bytes) ≡ field bytes 1 4
  pub below : (x : T) → Fits x → number x < 2 ^ 32
  pub fits : (bytes : List ℕ) → IsBytes bytes → Fits (read bytes)
  pub back : (bytes : List ℕ) → IsBytes bytes → size ≤ length bytes → slice_index bytes 0 ≡ tag → write (read bytes) ≡ take size bytes
  pub again : (x : T) (rest : List ℕ) → Fits x → read (write x ++ rest) ≡ x

-- the tag in front
front : (tag n : ℕ) (bytes rest : List ℕ) → 1 ≤ length bytes → slice_index bytes 0 ≡ tag → rest ≡ take n (drop 1 bytes) → tag ∷ rest ≡ take (1 + n) bytes
front tag n [] rest some e same = absurd (omega arith)
front tag n (b ∷ bytes) rest some e same = ap (λ (t : ℕ). t ∷ rest) (sym e) ∙ ap (λ (r : List ℕ). b ∷ r) same ∙ sym (take-add 1 n (b ∷ bytes))

-- a front of two parts
joined : (n m at : ℕ) (bytes a b : List ℕ) → a ≡ take n (drop at bytes) → b ≡ take m (drop (at + n) bytes) → a ++ b ≡ take (n + m) (drop at bytes)
joined n m at bytes a b is_a is_b =
    ap (λ (x : List ℕ). x ++ b) is_a
    ∙ ap (λ (y : List ℕ). take n (drop at bytes) ++ y) (is_b ∙ ap (take m) (sym (drop-drop n at bytes)))
    ∙ sym (take-add n m (drop at bytes))

vertex_back : (bytes : List ℕ) → IsBytes bytes → 13 ≤ length bytes → slice_index bytes 0 ≡ 1 → vertex_record (vertex_at bytes) ≡ take 13 bytes
vertex_back bytes h within tag =
    front 1 12 bytes (big_bytes 4 (field bytes 1 4) ++ big_bytes 8 (field bytes 5 8)) (omega arith) tag
    (joined 4 8 1 bytes (big_bytes 4 (field bytes 1 4)) (big_bytes 8 (field bytes 5 8)) (big_bytes-field 4 bytes 1 four h (omega arith)) (big_bytes-field 8 bytes 5 eight h (omega arith)))

ghost_back : (bytes : List ℕ) → IsBytes bytes → 15 ≤ length bytes → slice_index bytes 0 ≡ 2 → ghost_record (ghost_at bytes) ≡ take 15 bytes
ghost_back bytes h within tag =
    front 2 14 bytes (big_bytes 4 (field bytes 1 4) ++ (big_bytes 8 (field bytes 5 8) ++ big_bytes 2 (field bytes 13 2))) (omega arith) tag
    (joined 4 10 1 bytes (big_bytes 4 (field bytes 1 4)) (big_bytes 8 (field bytes 5 8) ++ big_bytes 2 (field bytes 13 2)) (big_bytes-field 4 bytes 1 four h (omega arith))
    (joined 8 2 5 bytes (big_bytes 8 (field bytes 5 8)) (big_bytes 2 (field bytes 13 2)) (big_bytes-field 8 bytes 5 eight h (omega arith)) (big_bytes-field 2 bytes 13 two h (omega arith))))

edge_back : (bytes : List ℕ) → IsBytes bytes → 17 ≤ length bytes → slice_index bytes 0 ≡ 3 → edge_record (edge_at bytes) ≡ take 17 bytes
edge_back bytes h within tag =
    front 3 16 bytes (big_bytes 4 (field bytes 1 4) ++ (big_bytes 4 (field bytes 5 4) ++ (big_bytes 4 (field bytes 9 4) ++ big_bytes 4 (field bytes 13 4)))) (omega arith) tag
    (joined 4 12 1 bytes (big_bytes 4 (field bytes 1 4)) (big_bytes 4 (field bytes 5 4) ++ (big_bytes 4 (field bytes 9 4) ++ big_bytes 4 (field bytes 13 4))) (big_bytes-field 4 bytes 1 four h (omega arith))
    (joined 4 8 5 bytes (big_bytes 4 (field bytes 5 4)) (big_bytes 4 (field bytes 9 4) ++ big_bytes 4 (field bytes 13 4)) (big_bytes-field 4 bytes 5 four h (omega arith))
    (joined 4 4 9 bytes (big_bytes 4 (field bytes 9 4)) (big_bytes 4 (field bytes 13 4)) (big_bytes-field 4 bytes 9 four h (omega arith)) (big_bytes-field 4 bytes 13 four h (omega arith)))))

-- lines by their numbers
abbrev vertex_of : ℕ → ℕ → VertexLine
vertex_of vertex id = record { vertex = record { 0 = vertex }; id = id }

abbrev ghost_of : ℕ → ℕ → ℕ → GhostLine
ghost_of vertex id atom = record { vertex = record { 0 = vertex }; id = id; atom = record { 0 = atom } }

abbrev edge_of : ℕ → ℕ → ℕ → ℕ → EdgeLine
edge_of edge from to weight =
    record { edge = record { 0 = edge }; from = record { 0 = from }; to = record { 0 = to }; weight = weight }

-- what was written in front is read, whatever follows
vertex_again : (v : VertexLine) (rest : List ℕ) → VertexLineFits v → vertex_at (vertex_record v ++ rest) ≡ v
vertex_again v rest fits =
    ap (λ (x : ℕ). vertex_of x (field (vertex_record v ++ rest) 5 8)) (big_number-reads_back 4 v.vertex.0 (big_bytes 8 v.id ++ rest) fits.vertex)
    ∙ ap (vertex_of v.vertex.0) (big_number-reads_back 8 v.id rest fits.id)

ghost_again : (g : GhostLine) (rest : List ℕ) → GhostLineFits g → ghost_at (ghost_record g ++ rest) ≡ g
ghost_again g rest fits =
    ap (λ (x : ℕ). ghost_of x (field (ghost_record g ++ rest) 5 8) (field (ghost_record g ++ rest) 13 2)) (big_number-reads_back 4 g.vertex.0 (big_bytes 8 g.id ++ (big_bytes 2 g.atom.0 ++ rest)) fits.vertex)
    ∙ ap (λ (x : ℕ). ghost_of g.vertex.0 x (field (ghost_record g ++ rest) 13 2)) (big_number-reads_back 8 g.id (big_bytes 2 g.atom.0 ++ rest) fits.id)
    ∙ ap (ghost_of g.vertex.0 g.id) (big_number-reads_back 2 g.atom.0 rest fits.atom)

edge_again : (e : EdgeLine) (rest : List ℕ) → EdgeLineFits e → edge_at (edge_record e ++ rest) ≡ e
edge_again e rest fits =
    let bytes = edge_record e ++ rest in
    ap (λ (x : ℕ). edge_of x (field bytes 5 4) (field bytes 9 4) (field bytes 13 4)) (big_number-reads_back 4 e.edge.0 (big_bytes 4 e.from.0 ++ (big_bytes 4 e.to.0 ++ (big_bytes 4 e.weight ++ rest))) fits.edge)
    ∙ ap (λ (x : ℕ). edge_of e.edge.0 x (field bytes 9 4) (field bytes 13 4)) (big_number-reads_back 4 e.from.0 (big_bytes 4 e.to.0 ++ (big_bytes 4 e.weight ++ rest)) fits.from)
    ∙ ap (λ (x : ℕ). edge_of e.edge.0 e.from.0 x (field bytes 13 4)) (big_number-reads_back 4 e.to.0 (big_bytes 4 e.weight ++ rest) fits.to)
    ∙ ap (edge_of e.edge.0 e.from.0 e.to.0) (big_number-reads_back 4 e.weight rest fits.weight)

pub vertex_form : IsForm 1 13 (λ v. v.vertex.0) VertexLineFits vertex_record vertex_at
vertex_form =
    record {
      some = omega arith;
      len = λ v. refl;
      head = λ v rest. refl;
      key = λ bytes. refl;
      below = λ v fits. fits.vertex;
      fits = λ bytes h. record { vertex = field-lt 4 bytes 1 h; id = field-lt 8 bytes 5 h };
      back = vertex_back;
      again = vertex_again;
    }

pub ghost_form : IsForm 2 15 (λ g. g.vertex.0) GhostLineFits ghost_record ghost_at
ghost_form =
    record {
      some = omega arith;
      len = λ g. refl;
      head = λ g rest. refl;
      key = λ bytes. refl;
      below = λ g fits. fits.vertex;
      fits = λ bytes h. record { vertex = field-lt 4 bytes 1 h; id = field-lt 8 bytes 5 h; atom = field-lt 2 bytes 13 h };
      back = ghost_back;
      again = ghost_again;
    }

pub edge_form : IsForm 3 17 (λ e. e.edge.0) EdgeLineFits edge_record edge_at
edge_form =
    record {
      some = omega arith;
      len = λ e. refl;
      head = λ e rest. refl;
      key = λ bytes. refl;
      below = λ e fits. fits.edge;
      fits = λ bytes h. record { edge = field-lt 4 bytes 1 h; from = field-lt 4 bytes 5 h; to = field-lt 4 bytes 9 h; weight = field-lt 4 bytes 13 h };
      back = edge_back;
      again = edge_again;
    }
