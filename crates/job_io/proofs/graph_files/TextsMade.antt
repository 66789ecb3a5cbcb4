-- The two texts of a made graph, written one after another.
use Rattle.std.proofs.Common.{◌≡◌, ◌≢◌, inl, inr, ℕ, List, length, take, Option, Result, Ok, Err, IfSome, codes, get_or, refl, sym, ap, ◌∙◌, subst, arith}
use Rattle.std.proofs.Math.Seq.{take-length}
use Rattle.std.specs.Io.KnownBytes.{Appends}
use Rattle.std.proofs.lemmas.List.{append_cancel_left}
use Rattle.gl_outside.specs.Names.{AppendsNames}
use Rattle.gl_base.specs.declared.jobs.MakePlan.{MakePlan}
use Rattle.gl_base.specs.declared.text_faults.TextFile.{TextFile}
use Rattle.gl_base.specs.declared.text_faults.TextFile.TheVariants.{Vertices, Edges}
use Rattle.graph_text.specs.generate.Making.{made_edges, made_vertices}
use Rattle.graph_text.specs.generate.Writes.{Writes, WritesEdges}
use Rattle.graph_text.specs.declared.generate.making.Writing.{Writing}
use Rattle.gl_outside.specs.FilesState.{FilesState}
use Rattle.job_io.specs.graph_files.Made.{IsMade, IsMadeFront, LeavesFront, LeavesText, edges_name, vertices_name}
use Rattle.job_io.specs.whole_files.Leaves.{GivesText, KeepsOrGives}
use Rattle.job_io.proofs.whole_files.FilesCreated.{gives-before}
use Rattle.graph_text.specs.declared.generate.making.Writing.TheVariants as out

-- what writing the vertex text leaves is a front of it
pub vertices-front : (result : Result (Unit {0}) Writing) (plan : MakePlan) (old new : Option (List ℕ)) (before now : ℕ)
    → Writes result (made_vertices plan) old new before now → (bytes : List ℕ) × IsMadeFront plan Vertices bytes × Appends old new bytes
vertices-front (Ok done) plan old new before now w =
    (made_vertices plan, (made_vertices plan, refl, length (made_vertices plan), sym (take-length (made_vertices plan))), w)
vertices-front (Err out.WriteFault) plan old new before now w =
    (take w.1.0 (made_vertices plan), (made_vertices plan, refl, w.1.0, refl), w.1.1)
vertices-front (Err out.NoMemory) plan old new before now w = (take w.0 (made_vertices plan), (made_vertices plan, refl, w.0, refl), w.1)

-- the same of the edge text
pub edges-front : (result : Result (Unit {0}) Writing) (plan : MakePlan) (old new : Option (List ℕ)) (before now : ℕ)
    → WritesEdges result plan old new before now → (bytes : List ℕ) × IsMadeFront plan Edges bytes × Appends old new bytes
edges-front (Ok done) plan old new before now (stride, is, w) =
    (made_edges plan stride, (made_edges plan stride, (stride, is, refl), length (made_edges plan stride), sym (take-length (made_edges plan stride))), w)
edges-front (Err out.WriteFault) plan old new before now (stride, is, w) =
    (take w.1.0 (made_edges plan stride), (made_edges plan stride, (stride, is, refl), w.1.0, refl), w.1.1)
edges-front (Err out.NoMemory) plan old new before now (stride, is, w) =
    (take w.0 (made_edges plan stride), (made_edges plan stride, (stride, is, refl), w.0, refl), w.1)

-- the two names differ
pub names-apart : (prefix : List ℕ) → vertices_name prefix ≢ edges_name prefix
names-apart prefix same = differ (append_cancel_left prefix _ _ same)
  where
    differ : codes ".v" ≡ codes ".e" → ⊥
    differ e = let at : 118 ≡ 101 = ap (λ (l : List ℕ). get_or l 1 0) e in omega (arith, at)

-- what a name gives stays
pub text-kept : (plan : MakePlan) (text : TextFile) (old mid new : FilesState) (name : List ℕ) → new.contents name ≡ mid.contents name
    → LeavesText plan text old mid name → LeavesText plan text old new name
text-kept plan text old mid new name same leaves =
    subst (λ (g : Option (List ℕ)). IfSome old.sinks.names (λ told. GivesText g (IsMade plan text))) (sym same) leaves

pub text-before : (plan : MakePlan) (text : TextFile) (old mid new : FilesState) (names : List (List ℕ)) (name : List ℕ) → AppendsNames old.sinks.names mid.sinks.names names
    → LeavesText plan text mid new name → LeavesText plan text old new name
text-before plan text old mid new names name noted leaves = gives-before old.sinks.names mid.sinks.names names (GivesText (new.contents name) (IsMade plan text)) noted leaves

-- what one file leaves is left by both, where the other changes nothing of its name, first or last
pub front-kept : (plan : MakePlan) (text : TextFile) (old mid new : FilesState) (name : List ℕ) → new.contents name ≡ mid.contents name
    → LeavesFront plan text old mid name → LeavesFront plan text old new name
front-kept plan text old mid new name same front =
    subst (λ (x : Option (List ℕ)). KeepsOrGives old.sinks.names (old.contents name) x (IsMadeFront plan text)) (sym same) front

pub front-after : (plan : MakePlan) (text : TextFile) (old mid new : FilesState) (names : List (List ℕ)) (name : List ℕ)
    → AppendsNames old.sinks.names mid.sinks.names names → mid.contents name ≡ old.contents name → LeavesFront plan text mid new name → LeavesFront plan text old new name
front-after plan text old mid new names name noted same (inl kept) = inl (kept ∙ same)
front-after plan text old mid new names name noted same (inr gives) = inr (gives-before old.sinks.names mid.sinks.names names (GivesText (new.contents name) (IsMadeFront plan text)) noted gives)
