-- The two texts of a graph that were read, told or not.
use Rattle.std.proofs.Common.{◌≡◌, ◌≤◌, ℕ, List, Ok, Err, refl, sym, ap, arith, Option, Result, IfSome, subst, Bool, is_some, IsTrue}
use Rattle.std.specs.List.Sorted.{IsPermutation}
use Rattle.gl_outside.specs.FilesState.{FilesState, left_of}
use Rattle.gl_outside.specs.declared.files.OpenFault.{OpenFault}
use Rattle.gl_outside.specs.declared.files.OpenFault.TheVariants.{Failed, NoMemory as NoMemoryAtOpen}
use Rattle.gl_outside.specs.Names.{AppendsNames}
use Rattle.graph_text.specs.GraphTexts.{ListsIds}
use Rattle.graph_text.specs.Vertices.{vertices_of}
use Rattle.graph_core.specs.DataGraph.{DataGraph}
use Rattle.graph_core.specs.GraphLists.{IsGraphOf}
use Rattle.graph_text.specs.Edges.{edges_of}
use Rattle.job_io.specs.job_config.Fields.{JobFields}
use Rattle.gl_outside.specs.Frames.{ChangesSources, OpensSource}
use Rattle.graph_text.specs.declared.lists.Reading.{Reading}
use Rattle.graph_text.specs.declared.lists.VertexList.{VertexList}
use Rattle.gl_outside.proofs.Fronts.{Rose-later}
use Rattle.gl_outside.specs.declared.files.FileNo.{FileNo}
use Rattle.gl_outside.specs.Faults.{Rose}
use Rattle.graph_core.specs.declared.graph_lists.EdgeIn.{EdgeIn}
use Rattle.graph_text.specs.Answers.{ReadsVertices, ReadsGraph}
use Rattle.job_io.specs.whole_files.FilesUsed.{OfText}
use Rattle.job_io.proofs.whole_files.TextsRead.{OfRead-map, text-before, OfRead-given, OfRead-if, left-is}
use Rattle.job_io.specs.job_files.Inner.Graphs.{ListsEdges, TakesVertices, TakesEdges}
use Rattle.job_io.specs.job_files.Inner.Causes.{reading_of}
use Rattle.job_io.specs.job_files.JobTexts.{OfTexts}
use Rattle.graph_text.specs.declared.lists.Reading.TheVariants as reading

pub vertices-given : (names : Option (List (List ℕ))) (given left : Option (List ℕ)) (before mid now : ℕ) (r : Result VertexList Reading)
    → left ≡ given → IfSome names (λ told. IsTrue (is_some given)) → before ≤ mid → ReadsVertices r left mid now → TakesVertices names given before now r
vertices-given names given left before mid now (Ok list) same there later reads = (
  reads.0,
  OfRead-given names given (λ bytes. ListsIds bytes list.ids.items) there
      (OfRead-if given Lists (λ bytes. ListsIds bytes list.ids.items) (λ bytes h. record { listed = h.0; lines = h.1; same = h.2; are = reads.0 })
      (subst (λ (t : Option (List ℕ)). IfSome t Lists) same reads.1)),
)
  where
    Lists : List ℕ → Type 0
    Lists bytes = (ids : List ℕ) × (vertices_of bytes ≡ Ok ids) × IsPermutation ids list.ids.items
vertices-given names given left before mid now (Err (reading.Text fault)) same there later reads =
    OfRead-given names given (λ bytes. vertices_of bytes ≡ Err fault) there
    (OfRead-if given (λ bytes. vertices_of bytes ≡ Err fault) (λ bytes. vertices_of bytes ≡ Err fault) (λ bytes h. h)
    (subst (λ (t : Option (List ℕ)). IfSome t (λ bytes. vertices_of bytes ≡ Err fault)) same reads))
vertices-given names given left before mid now (Err reading.ReadFault) same there later reads = Rose-later before mid now later reads
vertices-given names given left before mid now (Err reading.NoMemory) same there later reads = tt

pub edges-given : (directed weighted : Bool) (ids : List ℕ) (names : Option (List (List ℕ))) (given left : Option (List ℕ)) (before mid now : ℕ) (r : Result DataGraph Reading)
    → left ≡ given → IfSome names (λ told. IsTrue (is_some given)) → before ≤ mid → ReadsGraph ids directed weighted r left mid now → TakesEdges directed weighted ids names given before now r
edges-given directed weighted ids names given left before mid now (Ok g) same there later reads = (
  reads.0,
  reads.1,
  OfRead-given names given (λ bytes. ListsEdges directed weighted ids g bytes) there
      (OfRead-if given Lists (λ bytes. ListsEdges directed weighted ids g bytes) (λ bytes h. record { listed = h.0; lines = h.1; graph = h.2 })
      (subst (λ (t : Option (List ℕ)). IfSome t Lists) same reads.2)),
)
  where
    Lists : List ℕ → Type 0
    Lists bytes = (edges : List EdgeIn) × (edges_of ids directed weighted bytes ≡ Ok edges) × IsGraphOf ids edges directed g
edges-given directed weighted ids names given left before mid now (Err (reading.Text fault)) same there later reads =
    OfRead-given names given (λ bytes. edges_of ids directed weighted bytes ≡ Err fault) there
    (OfRead-if given (λ bytes. edges_of ids directed weighted bytes ≡ Err fault) (λ bytes. edges_of ids directed weighted bytes ≡ Err fault) (λ bytes h. h)
    (subst (λ (t : Option (List ℕ)). IfSome t (λ bytes. edges_of ids directed weighted bytes ≡ Err fault)) same reads))
edges-given directed weighted ids names given left before mid now (Err reading.ReadFault) same there later reads = Rose-later before mid now later reads
edges-given directed weighted ids names given left before mid now (Err reading.NoMemory) same there later reads = tt

pub texts-before : (old mid : FilesState) (names : List (List ℕ)) (job : JobFields) (P : List ℕ → List ℕ → Type 0) → ChangesSources old mid → AppendsNames old.sources.names mid.sources.names names
    → OfTexts mid job P → OfTexts old job P
texts-before old mid names job P frame noted h =
    text-before old mid names job.vertices (λ x. OfText old job.edges (P x)) frame noted
    (OfRead-map mid.sources.names (mid.contents job.vertices) (λ x. OfText mid job.edges (P x)) (λ x. OfText old job.edges (P x))
    (λ x p. text-before old mid names job.edges (P x) frame noted p) h)

pub vertices-of : (old mid was last : FilesState) (now : ℕ) (name : List ℕ) (number : FileNo) (own : ℕ) (r : Result VertexList Reading)
    → OpensSource old mid name (Ok number) → IfSome old.sources.names (λ told. IsTrue (is_some (old.contents name))) → old.sources.faults ≤ mid.sources.faults
    → own ≡ number.0 → was ≡ mid → now ≡ last.sources.faults → ReadsVertices r (left_of was own) was.sources.faults last.sources.faults
    → TakesVertices old.sources.names (old.contents name) old.sources.faults now r
vertices-of old mid was last now name number own r opens there later own_is was_is new_is reads =
    let T : ℕ → Type 0 = λ n. TakesVertices old.sources.names (old.contents name) old.sources.faults n r in
    let more : old.sources.faults ≤ was.sources.faults = omega (arith, later, ap (λ (s : FilesState). s.sources.faults) was_is) in
    subst T (sym new_is) (vertices-given old.sources.names (old.contents name) (left_of was own) old.sources.faults was.sources.faults last.sources.faults r
    (left-is old mid was name number own opens own_is was_is) there more reads)

pub edges-of : (directed weighted : Bool) (ids : List ℕ) (old mid was last : FilesState) (now : ℕ) (name : List ℕ) (number : FileNo) (own : ℕ) (r : Result DataGraph Reading)
    → OpensSource old mid name (Ok number) → IfSome old.sources.names (λ told. IsTrue (is_some (old.contents name))) → old.sources.faults ≤ mid.sources.faults
    → own ≡ number.0 → was ≡ mid → now ≡ last.sources.faults → ReadsGraph ids directed weighted r (left_of was own) was.sources.faults last.sources.faults
    → TakesEdges directed weighted ids old.sources.names (old.contents name) old.sources.faults now r
edges-of directed weighted ids old mid was last now name number own r opens there later own_is was_is new_is reads =
    let T : ℕ → Type 0 = λ n. TakesEdges directed weighted ids old.sources.names (old.contents name) old.sources.faults n r in
    let more : old.sources.faults ≤ was.sources.faults = omega (arith, later, ap (λ (s : FilesState). s.sources.faults) was_is) in
    subst T (sym new_is) (edges-given directed weighted ids old.sources.names (old.contents name) (left_of was own) old.sources.faults was.sources.faults last.sources.faults r
    (left-is old mid was name number own opens own_is was_is) there more reads)

pub vertices-unopened : (names : Option (List (List ℕ))) (given : Option (List ℕ)) (before now : ℕ) (fault : OpenFault) → (fault ≡ Failed → Rose before now)
    → TakesVertices names given before now (Err (reading_of fault))
vertices-unopened names given before now Failed rose = rose refl
vertices-unopened names given before now NoMemoryAtOpen rose = tt

pub edges-unopened : (directed weighted : Bool) (ids : List ℕ) (names : Option (List (List ℕ))) (given : Option (List ℕ)) (before now : ℕ) (fault : OpenFault)
    → (fault ≡ Failed → Rose before now) → TakesEdges directed weighted ids names given before now (Err (reading_of fault))
edges-unopened directed weighted ids names given before now Failed rose = rose refl
edges-unopened directed weighted ids names given before now NoMemoryAtOpen rose = tt
