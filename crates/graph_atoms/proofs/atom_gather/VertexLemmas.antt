-- The vertices that a file adds are those of its atom.
use Rattle.std.proofs.Common.{◌≡◌, ◌≢◌, ℕ, zero, suc, ◌+◌, List, [], ◌∷◌, ◌++◌, length, map, slice_index, refl, sym, ap, ◌∙◌, arith, append_assoc, length-append}
use Rattle.std.specs.List.{flat_map, AllByRecursion}
use Rattle.std.proofs.Math.Seq.{drop-append-add}
use Rattle.std.proofs.lemmas.Bool.{eq-eqb, ne_eqb}
use Rattle.std.proofs.lemmas.List.{get_or-append-add}
use Rattle.std.proofs.lemmas.List.Elements.{recursion_from_All}
use Rattle.byteorder.specs.Numbers.{big_number-reads_back}
use Rattle.gl_base.specs.declared.atoms.VertexLine.{VertexLine}
use Rattle.gl_base.specs.declared.atoms.EdgeLine.{EdgeLine}
use Rattle.graph_atoms.specs.atom_file.Fields.{field}
use Rattle.graph_atoms.specs.atom_file.Atoms.{Atom, IsAtom, AtomFits, VertexLineFits, vertex_record, ghost_record, edge_record, header_bytes, record_count, atom_bytes}
use Rattle.graph_atoms.proofs.atom_file.RecordLemmas.{vertex_form, ghost_form}
use Rattle.graph_atoms.proofs.atom_file.WrittenLemmas.{first_tag}
use Rattle.graph_atoms.specs.atom_gather.Owners.{vertices_from, vertices_added}

none_from : (bytes : List ℕ) (k at : ℕ) → slice_index bytes at ≢ 1 → vertices_from bytes k at ≡ []
none_from bytes zero at apart = refl
none_from bytes (suc k) at apart = rw (ne_eqb (slice_index bytes at) 1 apart) refl

one_from : (bytes : List ℕ) (k at : ℕ) → slice_index bytes at ≡ 1 → vertices_from bytes (suc k) at ≡ field bytes (at + 1) 4 ∷ vertices_from bytes k (at + 13)
one_from bytes k at is = rw (eq-eqb (slice_index bytes at) 1 is) refl

-- what stands behind a front
behind : (front rest : List ℕ) → slice_index (front ++ rest) (length front) ≡ slice_index rest 0
behind front rest =
    let none : length front + 0 ≡ length front = omega arith in
    ap (slice_index (front ++ rest)) (sym none) ∙ get_or-append-add front rest 0 0

-- vertices that were written are read, up to a record of another kind
vertices_written : (vs : List VertexLine) (bytes front rest : List ℕ) (left : ℕ) → AllByRecursion VertexLineFits vs → slice_index rest 0 ≢ 1 → bytes ≡ front ++ (flat_map vertex_record vs ++ rest) → vertices_from bytes (length vs + left) (length front) ≡ map (λ (l : VertexLine). l.vertex.0) vs
vertices_written [] bytes front rest left fit apart is =
    none_from bytes (0 + left) (length front) (λ e. apart (sym (ap (λ (bs : List ℕ). slice_index bs (length front)) is ∙ behind front rest) ∙ e))
vertices_written (x ∷ xs) bytes front rest left fit apart is =
    let more : suc (length xs) + left ≡ suc (length xs + left) = omega arith in
    let after = flat_map vertex_record xs ++ rest in
    let split : bytes ≡ front ++ (vertex_record x ++ after) = is ∙ ap (λ (bs : List ℕ). front ++ bs) (append_assoc (vertex_record x) (flat_map vertex_record xs) rest) in
    let tag_is : slice_index bytes (length front) ≡ 1 = ap (λ (bs : List ℕ). slice_index bs (length front)) split ∙ behind front (vertex_record x ++ after) in
    let number_is : field bytes (length front + 1) 4 ≡ x.vertex.0 =
    ap (λ (bs : List ℕ). field bs (length front + 1) 4) split
    ∙ ap (λ (bs : List ℕ). field bs 0 4) (drop-append-add front (vertex_record x ++ after) 1)
    ∙ sym (vertex_form.key (vertex_record x ++ after)) ∙ ap (λ (l : VertexLine). l.vertex.0) (vertex_form.again x after fit.0) in
    let place : length front + 13 ≡ length (front ++ vertex_record x) = omega (arith, length-append front (vertex_record x), vertex_form.len x) in
    let later = vertices_written xs bytes (front ++ vertex_record x) rest left fit.1 apart (split ∙ sym (append_assoc front (vertex_record x) after)) in
    ap (λ (k : ℕ). vertices_from bytes k (length front)) more
    ∙ one_from bytes (length xs + left) (length front) tag_is
    ∙ ap (λ (n : ℕ). n ∷ vertices_from bytes (length xs + left) (length front + 13)) number_is
    ∙ ap (λ (at : ℕ). x.vertex.0 ∷ vertices_from bytes (length xs + left) at) place
    ∙ ap (λ (ns : List ℕ). x.vertex.0 ∷ ns) later

-- the records behind the vertices
abbrev behind_vertices : Atom → List ℕ
behind_vertices a = flat_map ghost_record a.ghosts ++ flat_map edge_record a.edges

regrouped : (a : Atom) → atom_bytes a ≡ header_bytes a ++ (flat_map vertex_record a.vertices ++ behind_vertices a)
regrouped a =
    append_assoc (header_bytes a ++ flat_map vertex_record a.vertices) (flat_map ghost_record a.ghosts) (flat_map edge_record a.edges)
    ∙ append_assoc (header_bytes a) (flat_map vertex_record a.vertices) (behind_vertices a)

no_vertex : (es : List EdgeLine) → slice_index (flat_map edge_record es) 0 ≢ 1
no_vertex [] = λ e. omega (arith, e)
no_vertex (l ∷ es) = λ e. omega (arith, e)

-- a file adds the vertices of its atom
pub vertices_of_file : (a : Atom) → IsAtom a → AtomFits a → vertices_added (atom_bytes a) ≡ map (λ (l : VertexLine). l.vertex.0) a.vertices
vertices_of_file a is fits =
    let bytes = atom_bytes a in
    let count_is : field bytes 16 4 ≡ length a.vertices + (length a.ghosts + length a.edges) =
    ap (λ (bs : List ℕ). field bs 16 4) (regrouped a)
    ∙ big_number-reads_back 4 (record_count a) (flat_map vertex_record a.vertices ++ behind_vertices a) is.few
    ∙ omega arith in
    ap (λ (k : ℕ). vertices_from bytes k 20) count_is
    ∙ vertices_written a.vertices bytes (header_bytes a) (behind_vertices a) (length a.ghosts + length a.edges) (recursion_from_All VertexLineFits a.vertices fits.vertices)
    (first_tag ghost_form a.ghosts (flat_map edge_record a.edges) 1 (λ e. omega (arith, e)) (no_vertex a.edges)) (regrouped a)
