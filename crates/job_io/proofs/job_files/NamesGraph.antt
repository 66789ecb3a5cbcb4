-- The names of a job's file and of its graph, handed on in turn.
use Rattle.std.proofs.Common.{◌≡◌, ℕ, List, None, Some, Ok, refl, sym, ap, [], ◌∷◌, Option, Result, subst}
use Rattle.gl_base.specs.declared.job_faults.JobFault.{JobFault}
use Rattle.job_io.specs.job_config.Jobs.{JobSayings}
use Rattle.gl_outside.specs.FilesState.{FilesState}
use Rattle.gl_outside.specs.Names.{AppendsNames}
use Rattle.gl_base.specs.declared.text_faults.TextFault.{TextFault}
use Rattle.graph_text.specs.GraphTexts.{ListsIds}
use Rattle.graph_text.specs.Vertices.{vertices_of}
use Rattle.job_io.specs.whole_files.FilesUsed.{OpensInOrder, OfRead}
use Rattle.job_io.specs.job_files.NamesRead.{edges_after, edges_behind, graph_names, names_after, names_behind, names_of}
use Rattle.job_io.specs.job_files.JobTexts.{SaysJob}
use Rattle.job_io.proofs.whole_files.NamesHanded.{OpensInOrder-first, AppendsNames-trans, OpensInOrder-then}
use Rattle.job_io.specs.job_files.DoableJobs.{job_for}
use Rattle.job_io.specs.declared.job_files.jobs.JobVerb.{JobVerb}

-- the vertex file was handed on, and then the edge file at most
pub OpensInOrder-edges : (a b c : Option (List (List ℕ))) (text : Option (List ℕ)) (v vertices w edges ids : List ℕ) → v ≡ vertices → w ≡ edges
    → OfRead a text (λ bytes. ListsIds bytes ids) → AppendsNames a b (v ∷ []) → OpensInOrder b c (w ∷ []) → OpensInOrder a c (vertices ∷ edges_after text edges)
OpensInOrder-edges a b c (Some bytes) v vertices w edges ids e f lists first rest =
    let follow : edges_behind (vertices_of bytes) edges ≡ edges ∷ [] = ap (λ (r : Result (List ℕ) TextFault). edges_behind r edges) lists.lines in
    let next : OpensInOrder b c (edges_behind (vertices_of bytes) edges) = subst (OpensInOrder b c) (sym follow) (OpensInOrder-first b c w edges [] f rest) in
    OpensInOrder-then a b c v vertices (edges_behind (vertices_of bytes) edges) e first next
OpensInOrder-edges None b c None v vertices w edges ids e f lists first rest = (0, tt)
OpensInOrder-edges (Some told) b c None v vertices w edges ids e f lists first rest = absurd lists

-- the job's file was handed on, and then the graph's files at most
pub OpensInOrder-graph : (verb : JobVerb) (files : FilesState) (b c : Option (List (List ℕ))) (file : List ℕ) (job : JobSayings) → SaysJob verb files file job
    → AppendsNames files.sources.names b (file ∷ []) → OpensInOrder b c (graph_names files job.fields) → OpensInOrder files.sources.names c (names_of verb files file)
OpensInOrder-graph verb files b c file job says first rest = go files.sources.names (files.contents file) says first
  where
    go : (a : Option (List (List ℕ))) (text : Option (List ℕ)) → OfRead a text (λ bytes. job_for verb bytes ≡ Ok job) → AppendsNames a b (file ∷ [])
        → OpensInOrder a c (file ∷ names_after verb files text)
    go a (Some bytes) is first =
        let next : OpensInOrder b c (names_behind files (job_for verb bytes)) = subst (λ (r : Result JobSayings JobFault). OpensInOrder b c (names_behind files r)) (sym is) rest in
        OpensInOrder-then a b c file file (names_behind files (job_for verb bytes)) refl first next
    go None None is first = (0, tt)
    go (Some told) None is first = absurd is

-- both files of the graph were handed on
pub AppendsNames-edges : (a b c : Option (List (List ℕ))) (text : Option (List ℕ)) (v vertices w edges ids : List ℕ) → v ≡ vertices → w ≡ edges
    → OfRead a text (λ bytes. ListsIds bytes ids) → AppendsNames a b (v ∷ []) → AppendsNames b c (w ∷ []) → AppendsNames a c (vertices ∷ edges_after text edges)
AppendsNames-edges a b c (Some bytes) v vertices w edges ids e f lists first rest =
    let follow : edges_behind (vertices_of bytes) edges ≡ edges ∷ [] = ap (λ (r : Result (List ℕ) TextFault). edges_behind r edges) lists.lines in
    let both : AppendsNames a c (v ∷ w ∷ []) = AppendsNames-trans a b c (v ∷ []) (w ∷ []) first rest in
    let named : AppendsNames a c (vertices ∷ edges ∷ []) =
    subst (λ (x : List ℕ). AppendsNames a c (vertices ∷ x ∷ [])) f (subst (λ (x : List ℕ). AppendsNames a c (x ∷ w ∷ [])) e both) in
    subst (λ (l : List (List ℕ)). AppendsNames a c (vertices ∷ l)) (sym follow) named
AppendsNames-edges None b c None v vertices w edges ids e f lists first rest = tt
AppendsNames-edges (Some told) b c None v vertices w edges ids e f lists first rest = absurd lists

-- the job's file and the graph's were handed on
pub AppendsNames-graph : (verb : JobVerb) (files : FilesState) (b c : Option (List (List ℕ))) (file : List ℕ) (job : JobSayings) → SaysJob verb files file job
    → AppendsNames files.sources.names b (file ∷ []) → AppendsNames b c (graph_names files job.fields) → AppendsNames files.sources.names c (names_of verb files file)
AppendsNames-graph verb files b c file job says first rest = go files.sources.names (files.contents file) says first
  where
    go : (a : Option (List (List ℕ))) (text : Option (List ℕ)) → OfRead a text (λ bytes. job_for verb bytes ≡ Ok job) → AppendsNames a b (file ∷ [])
        → AppendsNames a c (file ∷ names_after verb files text)
    go a (Some bytes) is first =
        let both : AppendsNames a c (file ∷ graph_names files job.fields) = AppendsNames-trans a b c (file ∷ []) (graph_names files job.fields) first rest in
        subst (λ (r : Result JobSayings JobFault). AppendsNames a c (file ∷ names_behind files r)) (sym is) both
    go None None is first = tt
    go (Some told) None is first = absurd is
