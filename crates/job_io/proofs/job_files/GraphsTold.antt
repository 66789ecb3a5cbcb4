-- What the texts tell that a graph was read from.
use Rattle.std.proofs.Common.{◌≡◌, ◌≤◌, ℕ, List, Ok, Err, Result, subst, inl, inr, Bool}
use Rattle.std.proofs.lemmas.List.Sorted.{IsPermutation-trans}
use Rattle.gl_outside.specs.FilesState.{FilesState}
use Rattle.gl_outside.specs.Names.{AppendsNames}
use Rattle.graph_text.specs.GraphTexts.{ListsIds}
use Rattle.graph_core.specs.DataGraph.{DataGraph}
use Rattle.graph_core.specs.GraphLists.{IsGraphOf}
use Rattle.graph_text.specs.Edges.{edges_of}
use Rattle.job_io.specs.job_config.Fields.{JobFields}
use Rattle.gl_outside.specs.Frames.{ChangesSources}
use Rattle.graph_text.specs.declared.lists.Reading.{Reading}
use Rattle.graph_text.specs.declared.lists.VertexList.{VertexList}
use Rattle.gl_outside.proofs.Fronts.{Rose-later}
use Rattle.job_io.specs.whole_files.FilesUsed.{OfText}
use Rattle.job_io.specs.job_files.JobTexts.{DescribeJobGraph, RefusesEdges, is_weighted}
use Rattle.job_io.specs.job_files.Inner.Graphs.{ListsEdges, TakesVertices, TakesEdges, TakesGraph}
use Rattle.job_io.proofs.whole_files.TextsRead.{OfRead-both, text-before}
use Rattle.job_io.proofs.job_files.SortedOnce.{sorted_once}
use Rattle.graph_text.specs.declared.lists.Reading.TheVariants as reading

-- the texts that a graph was read from tell it
tells : (job : JobFields) (vertices edges ids : List ℕ) (g : DataGraph) → ListsIds vertices ids
    → ListsEdges job.directed (is_weighted job.algorithm) ids g edges → DescribeJobGraph job vertices edges g
tells job vertices edges ids g lists has =
    let same : ids ≡ g.ids =
    sorted_once lists.listed ids g.ids lists.are.ascending has.graph.graph.ascending lists.same
    (IsPermutation-trans lists.listed ids g.ids lists.same has.graph.same_ids) in
    let Edges : List ℕ → Type 0 = λ ids. edges_of ids job.directed (is_weighted job.algorithm) edges ≡ Ok has.listed in
    let Graph : List ℕ → Type 0 = λ ids. IsGraphOf ids has.listed job.directed g in
    record {
      vertex_lines = subst (ListsIds vertices) same lists;
      listed = has.listed;
      edge_lines = subst Edges same has.lines;
      graph = subst Graph same has.graph;
    }

-- the vertex file was refused
pub vertices-refused : (files : FilesState) (now : ℕ) (job : JobFields) (why : Reading)
    → TakesVertices files.sources.names (files.contents job.vertices) files.sources.faults now (Err why) → TakesGraph files now job (Err why)
vertices-refused files now job (reading.Text fault) takes = inl takes
vertices-refused files now job reading.ReadFault takes = takes
vertices-refused files now job reading.NoMemory takes = takes

pub vertices-renamed : (files : FilesState) (now : ℕ) (v name : List ℕ) (r : Result VertexList Reading) → v ≡ name
    → TakesVertices files.sources.names (files.contents v) files.sources.faults now r → TakesVertices files.sources.names (files.contents name) files.sources.faults now r
vertices-renamed files now v name r e takes = subst (λ (n : List ℕ). TakesVertices files.sources.names (files.contents n) files.sources.faults now r) e takes

-- the vertex file was read, and then the edge file was read or refused
pub edges-taken : (files mid : FilesState) (now : ℕ) (job : JobFields) (v e ids : List ℕ) (weighted : Bool) (names : List (List ℕ)) (taken : Result DataGraph Reading)
    → v ≡ job.vertices → e ≡ job.edges → weighted ≡ is_weighted job.algorithm → files.sources.faults ≤ mid.sources.faults
    → ChangesSources files mid → AppendsNames files.sources.names mid.sources.names names
    → OfText files v (λ bytes. ListsIds bytes ids)
    → TakesEdges job.directed weighted ids mid.sources.names (mid.contents e) mid.sources.faults now taken → TakesGraph files now job taken
edges-taken files mid now job v e ids weighted names taken v_is e_is weighted_is later frame noted lists takes =
    let Lists : List ℕ → Type 0 = λ name. OfText files name (λ bytes. ListsIds bytes ids) in
    let Name : List ℕ → Type 0 = λ name. TakesEdges job.directed weighted ids mid.sources.names (mid.contents name) mid.sources.faults now taken in
    let Weight : Bool → Type 0 = λ w. TakesEdges job.directed w ids mid.sources.names (mid.contents job.edges) mid.sources.faults now taken in
    go taken (subst Lists v_is lists) (subst Weight weighted_is (subst Name e_is takes))
  where
    go : (taken : Result DataGraph Reading) → OfText files job.vertices (λ bytes. ListsIds bytes ids)
        → TakesEdges job.directed (is_weighted job.algorithm) ids mid.sources.names (mid.contents job.edges) mid.sources.faults now taken → TakesGraph files now job taken
    go (Ok g) lists takes = (
      takes.0,
      takes.1,
      OfRead-both files.sources.names (files.contents job.vertices) (files.contents job.edges) (λ bytes. ListsIds bytes ids)
          (λ bytes. ListsEdges job.directed (is_weighted job.algorithm) ids g bytes) (λ v e. DescribeJobGraph job v e g) (λ v e p q. tells job v e ids g p q) lists
          (text-before files mid names job.edges (λ bytes. ListsEdges job.directed (is_weighted job.algorithm) ids g bytes) frame noted takes.2),
    )
    go (Err (reading.Text fault)) lists takes =
        inr (OfRead-both files.sources.names (files.contents job.vertices) (files.contents job.edges) (λ bytes. ListsIds bytes ids)
        (λ bytes. edges_of ids job.directed (is_weighted job.algorithm) bytes ≡ Err fault) (RefusesEdges job fault)
        (λ v e p q. record { ids = ids; lists = p; refused = q }) lists
        (text-before files mid names job.edges (λ bytes. edges_of ids job.directed (is_weighted job.algorithm) bytes ≡ Err fault) frame noted takes))
    go (Err reading.ReadFault) lists takes = Rose-later files.sources.faults mid.sources.faults now later takes
    go (Err reading.NoMemory) lists takes = takes
