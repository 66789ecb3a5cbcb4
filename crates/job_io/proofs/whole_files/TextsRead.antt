-- Texts that were read, told or not.
use Rattle.std.proofs.Common.{◌≡◌, ℕ, List, [], ◌∷◌, Option, None, Some, Result, Ok, Err, IfSome, ap, refl, sym, ◌∙◌, subst, arith, ◌≤◌, is_some, IsTrue, false}
use Rattle.std.specs.declared.alloc.Global.{Global}
use Rattle.std.specs.declared.vec.Vec.{Vec}
use Rattle.gl_outside.specs.declared.files.OpenFault.{OpenFault}
use Rattle.gl_outside.specs.declared.files.OpenFault.TheVariants.{Failed, NoMemory as NoMemoryAtOpen}
use Rattle.gl_outside.specs.Names.{AppendsNames, NotesName}
use Rattle.gl_outside.specs.FilesState.{FilesState, left_of}
use Rattle.gl_outside.proofs.Fronts.{Rose-later}
use Rattle.gl_outside.proofs.Opening.{opens_sources, reads_sources, source_opened, ChangesSources-trans}
use Rattle.gl_outside.specs.Frames.{ChangesSources, OpensSource, ReadsOnly}
use Rattle.gl_outside.specs.declared.files.FileNo.{FileNo}
use Rattle.gl_outside.specs.Faults.{Rose}
use Rattle.job_io.specs.whole_files.FilesUsed.{OpensInOrder, OfRead, OfText, ReadsFiles}
use Rattle.job_io.specs.whole_files.FilesRead.{not_read_of, IsFront, ReadsFront}
use Rattle.job_io.specs.declared.whole_files.reading.NotRead.{NotRead}
use Rattle.job_io.proofs.whole_files.NamesHanded.{OpensInOrder-first, OpensInOrder-refused}
use Rattle.job_io.specs.declared.whole_files.reading.NotRead.TheVariants as file

is_no_truth : IsTrue false → ⊥
is_no_truth e = cc

-- a fact of a text that a reader had is one of the text that its name gives
pub OfRead-given : (names : Option (List (List ℕ))) (given : Option (List ℕ)) (P : List ℕ → Type 0) → IfSome names (λ told. IsTrue (is_some given))
    → OfRead None given P → OfRead names given P
OfRead-given names (Some bytes) P there p = p
OfRead-given None None P there p = tt
OfRead-given (Some told) None P there p = absurd (is_no_truth there)

pub OfRead-if : (given : Option (List ℕ)) (P Q : List ℕ → Type 0) → ((bytes : List ℕ) → P bytes → Q bytes) → IfSome given P → OfRead None given Q
OfRead-if None P Q go p = tt
OfRead-if (Some bytes) P Q go p = go bytes p

pub OfRead-map : (names : Option (List (List ℕ))) (given : Option (List ℕ)) (P Q : List ℕ → Type 0) → ((bytes : List ℕ) → P bytes → Q bytes) → OfRead names given P → OfRead names given Q
OfRead-map names (Some bytes) P Q go p = go bytes p
OfRead-map None None P Q go p = tt
OfRead-map (Some told) None P Q go p = p

-- two texts that were read
pub OfRead-both : (names : Option (List (List ℕ))) (v e : Option (List ℕ)) (P Q : List ℕ → Type 0) (R : List ℕ → List ℕ → Type 0) → ((x y : List ℕ) → P x → Q y → R x y)
    → OfRead names v P → OfRead names e Q → OfRead names v (λ x. OfRead names e (λ y. R x y))
OfRead-both names v e P Q R go p q = OfRead-map names v P (λ x. OfRead names e (λ y. R x y)) (λ x px. OfRead-map names e Q (R x) (λ y. go x y px) q) p

pub OfRead-two : (names : Option (List (List ℕ))) (v e : Option (List ℕ)) (P Q : List ℕ → List ℕ → Type 0) → ((x y : List ℕ) → P x y → Q x y)
    → OfRead names v (λ x. OfRead names e (λ y. P x y)) → OfRead names v (λ x. OfRead names e (λ y. Q x y))
OfRead-two names v e P Q go p = OfRead-map names v (λ x. OfRead names e (P x)) (λ x. OfRead names e (Q x)) (λ x px. OfRead-map names e (P x) (Q x) (go x) px) p

-- the bytes of a text that is given
pub OfRead-bytes : (names : Option (List (List ℕ))) (given : Option (List ℕ)) (bytes : List ℕ) (P : List ℕ → Type 0) → given ≡ Some bytes → OfRead names given P → P bytes
OfRead-bytes names given bytes P e p = let Q : Option (List ℕ) → Type 0 = λ t. OfRead names t P in subst Q e p

-- names that were told stay told
pub OfRead-before : (old mid : Option (List (List ℕ))) (names : List (List ℕ)) (given : Option (List ℕ)) (P : List ℕ → Type 0) → AppendsNames old mid names → OfRead mid given P → OfRead old given P
OfRead-before old mid names (Some bytes) P noted p = p
OfRead-before None mid names None P noted p = tt
OfRead-before (Some x) None names None P noted p = absurd noted
OfRead-before (Some x) (Some y) names None P noted p = absurd p

-- what a reader of the file's source answers, in the words of the name
pub front-given : (most : ℕ) (names : Option (List (List ℕ))) (given left : Option (List ℕ)) (before mid now : ℕ) (r : Result (Vec ℕ Global) NotRead)
    → left ≡ given → IfSome names (λ told. IsTrue (is_some given)) → before ≤ mid → ReadsFront most None left mid now r → ReadsFront most names given before now r
front-given most names given left before mid now (Ok bytes) same there later takes =
    OfRead-given names given (λ whole. IsFront most whole bytes.items) there (subst (λ (t : Option (List ℕ)). OfRead None t (λ whole. IsFront most whole bytes.items)) same takes)
front-given most names given left before mid now (Err file.ReadFault) same there later takes = Rose-later before mid now later takes
front-given most names given left before mid now (Err file.NoMemory) same there later takes = tt

-- a file was opened and read, as a source that is one of its own
pub reads-file : (old mid was last new : FilesState) (name : List ℕ) (number : FileNo) (own : ℕ) → OpensSource old mid name (Ok number)
    → NotesName old.sources.names mid.sources.names name (Ok number) → old.sources.faults ≤ mid.sources.faults
    → own ≡ number.0 → was ≡ mid → ReadsOnly own was last → was.sources.faults ≤ last.sources.faults → new ≡ last
    → ReadsFiles (name ∷ []) old new × AppendsNames old.sources.names new.sources.names (name ∷ [])
reads-file old mid was last new name number own opens notes first own_is was_is reads then new_is =
    let M : FilesState → Type 0 = λ m. ChangesSources old m in
    let names : new.sources.names ≡ mid.sources.names = ap (λ (s : FilesState). s.sources.names) new_is ∙ ap (λ (s : FilesState). s.sources.names) reads ∙ ap (λ (s : FilesState). s.sources.names) was_is in
    let handed : AppendsNames old.sources.names new.sources.names (name ∷ []) = subst (λ (n : Option (List (List ℕ))). AppendsNames old.sources.names n (name ∷ [])) (sym names) notes in
    let opened : ChangesSources old was = subst M (sym was_is) (opens_sources old mid name (Ok number) opens) in
    let more : was.sources.faults ≡ mid.sources.faults = ap (λ (s : FilesState). s.sources.faults) was_is in
    let end : new.sources.faults ≡ last.sources.faults = ap (λ (s : FilesState). s.sources.faults) new_is in (
      record {
        frame = subst M (sym new_is) (ChangesSources-trans old was last opened (reads_sources own was last reads));
        handed = (1, handed);
        later = omega (arith, first, then, more, end);
      },
      handed,
    )

pub hands-file : (old mid was last : FilesState) (now : Option (List (List ℕ))) (name : List ℕ) (number : FileNo) (own : ℕ)
    → NotesName old.sources.names mid.sources.names name (Ok number) → was ≡ mid → ReadsOnly own was last → now ≡ last.sources.names
    → AppendsNames old.sources.names now (name ∷ [])
hands-file old mid was last now name number own notes was_is reads now_is =
    let names : now ≡ mid.sources.names = now_is ∙ ap (λ (s : FilesState). s.sources.names) reads ∙ ap (λ (s : FilesState). s.sources.names) was_is in
    subst (λ (n : Option (List (List ℕ))). AppendsNames old.sources.names n (name ∷ [])) (sym names) notes

-- what such a source has left is what the name gives
pub left-is : (old mid was : FilesState) (name : List ℕ) (number : FileNo) (own : ℕ) → OpensSource old mid name (Ok number) → own ≡ number.0 → was ≡ mid
    → left_of was own ≡ old.contents name
left-is old mid was name number own opens own_is was_is =
    ap (λ (s : FilesState). left_of s own) was_is ∙ ap (λ (k : ℕ). left_of mid k) own_is ∙ (source_opened old mid name number opens).1

-- a file was not opened
pub reads-none : (old new : FilesState) (name : List ℕ) (fault : OpenFault) → OpensSource old new name (Err fault) → NotesName old.sources.names new.sources.names name (Err fault)
    → old.sources.faults ≤ new.sources.faults → ReadsFiles (name ∷ []) old new
reads-none old new name fault opens notes later =
    record { frame = opens_sources old new name (Err fault) opens; handed = OpensInOrder-refused old.sources.names new.sources.names name fault notes; later = later }

-- files were read, and then others
pub reads-after : (a b c : FilesState) (xs ys names : List (List ℕ)) → ReadsFiles xs a b → ReadsFiles ys b c → OpensInOrder a.sources.names c.sources.names names → ReadsFiles names a c
reads-after a b c xs ys names p q handed =
    let first = p.later in
    let then = q.later in
    record { frame = ChangesSources-trans a b c p.frame q.frame; handed = handed; later = omega (arith, first, then) }

-- the first of some files was read, under a name that is the first one
pub reads-more : (a b : FilesState) (v first : List ℕ) (rest : List (List ℕ)) → v ≡ first → ReadsFiles (v ∷ []) a b → ReadsFiles (first ∷ rest) a b
reads-more a b v first rest e p =
    record { frame = p.frame; handed = OpensInOrder-first a.sources.names b.sources.names v first rest e p.handed; later = p.later }

-- what a text that was read says is said of the same name
pub renamed : (files : FilesState) (v name : List ℕ) (P : List ℕ → Type 0) → v ≡ name → OfText files v P → OfText files name P
renamed files v name P e h = subst (λ (n : List ℕ). OfText files n P) e h

-- what holds of a text that is read later holds of what its name gave
pub text-before : (old mid : FilesState) (names : List (List ℕ)) (name : List ℕ) (P : List ℕ → Type 0) → ChangesSources old mid → AppendsNames old.sources.names mid.sources.names names
    → OfText mid name P → OfText old name P
text-before old mid names name P frame noted h =
    let same = ap (λ (s : FilesState). s.contents name) frame in
    OfRead-before old.sources.names mid.sources.names names (old.contents name) P noted (subst (λ (t : Option (List ℕ)). OfRead mid.sources.names t P) same h)

-- The answers of calls that opened a file and read it as a source, and of those that did not open it.
pub front-of : (most : ℕ) (old mid was last : FilesState) (now : ℕ) (name : List ℕ) (number : FileNo) (own : ℕ) (r : Result (Vec ℕ Global) NotRead)
    → OpensSource old mid name (Ok number) → IfSome old.sources.names (λ told. IsTrue (is_some (old.contents name))) → old.sources.faults ≤ mid.sources.faults
    → own ≡ number.0 → was ≡ mid → now ≡ last.sources.faults → ReadsFront most None (left_of was own) was.sources.faults last.sources.faults r
    → ReadsFront most old.sources.names (old.contents name) old.sources.faults now r
front-of most old mid was last now name number own r opens there later own_is was_is new_is takes =
    let T : ℕ → Type 0 = λ n. ReadsFront most old.sources.names (old.contents name) old.sources.faults n r in
    let more : old.sources.faults ≤ was.sources.faults = omega (arith, later, ap (λ (s : FilesState). s.sources.faults) was_is) in
    subst T (sym new_is) (front-given most old.sources.names (old.contents name) (left_of was own) old.sources.faults was.sources.faults last.sources.faults r
    (left-is old mid was name number own opens own_is was_is) there more takes)

pub front-unopened : (most : ℕ) (names : Option (List (List ℕ))) (given : Option (List ℕ)) (before now : ℕ) (fault : OpenFault) → (fault ≡ Failed → Rose before now)
    → ReadsFront most names given before now (Err (not_read_of fault))
front-unopened most names given before now Failed rose = rose refl
front-unopened most names given before now NoMemoryAtOpen rose = tt
