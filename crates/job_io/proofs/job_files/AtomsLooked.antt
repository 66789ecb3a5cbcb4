-- What looking at the files of a cut answers, at each place where it ends.
use Rattle.std.proofs.Common.{◌≡◌, ◌≤◌, ◌<◌, ◌+◌, ℕ, List, [], ◌∷◌, Option, None, Some, Ok, Err, IfSome, refl, sym, ap, ◌∙◌, subst, arith}
use Rattle.std.specs.Option.{option_or}
use Rattle.std.specs.declared.alloc.Global.{Global}
use Rattle.std.specs.declared.vec.Vec.{Vec}
use Rattle.gl_base.specs.declared.atoms.AtomsFault.{AtomsFault}
use Rattle.gl_outside.specs.FilesState.{FilesState}
use Rattle.gl_outside.specs.Frames.{ChangesSources}
use Rattle.gl_outside.specs.Names.{AppendsNames}
use Rattle.gl_outside.proofs.Fronts.{Rose-later}
use Rattle.graph_core.specs.DataGraph.{DataGraph}
use Rattle.graph_atoms.specs.declared.atom_file.faults.AtomFault.{AtomFault}
use Rattle.graph_atoms.specs.atom_cut.Index.{index_bytes}
use Rattle.graph_atoms.specs.atom_gather.Cuts.{atom_numbers}
use Rattle.graph_atoms.specs.atom_gather.Files.{AreFiles, atom_file_at, form_fault, form_of}
use Rattle.graph_atoms.specs.atom_gather.Gathered.{IsAssignment, gather_fault}
use Rattle.graph_atoms.specs.atom_gather.IndexForm.{atoms_in, index_fault}
use Rattle.graph_atoms.specs.declared.atom_gather.cuts.Cut.{Cut}
use Rattle.graph_atoms.specs.declared.atom_gather.cuts.Cut.TheVariants.{Grown, Told}
use Rattle.gl_base.specs.declared.numbers.AtomNo.{AtomNo}
use Rattle.job_io.specs.whole_files.AtomNames.{atom_name, index_name}
use Rattle.job_io.specs.whole_files.FilesUsed.{OpensInOrder, ReadsFiles}
use Rattle.job_io.specs.whole_files.InTurn.{first_names}
use Rattle.job_io.proofs.whole_files.FilesCreated.{gives-before}
use Rattle.job_io.proofs.whole_files.NamesHanded.{OpensInOrder-then}
use Rattle.job_io.proofs.whole_files.TextsRead.{reads-after, reads-more}
use Rattle.job_io.specs.declared.job_files.inputs.NoInput.{NoInput}
use Rattle.job_io.specs.declared.job_files.inputs.NoInput.TheVariants as why
use Rattle.job_io.specs.job_files.Atoms.{FindsInAtoms, IsToldCut, atom_files, atom_forms, atoms_fault, bytes_or_none, given_bytes, index_form, long_or}
use Rattle.job_io.specs.job_files.Inner.AtomsRead.{HaveAtoms, LooksAtAtoms, TakesAtoms, TakesFile, TakesNamedAtoms, named_atoms}
use Rattle.job_io.specs.job_files.NamesRead.{atoms_names, atoms_of_index, unless_fault}
use Rattle.job_io.proofs.job_files.AtomsTaken.{not-long}
use Rattle.job_io.proofs.job_files.SameFiles.{gather-same}
use Rattle.std.specs.Prelude.{Result}

-- What a formed index gives, where names are told.
abbrev pub IsFormed : FilesState → List ℕ → List ℕ → Type 0
IsFormed files prefix index =
    IfSome files.sources.names (λ told. (index ≡ given_bytes files (index_name prefix)) × (index_form (given_bytes files (index_name prefix)) ≡ None))

-- the index was not taken
pub index-untaken : (files : FilesState) (now : ℕ) (prefix : List ℕ) (g : DataGraph) (cause : NoInput) → TakesFile files now (index_name prefix) 0 (Err cause) → LooksAtAtoms files now prefix g (Err cause)
index-untaken files now prefix g (why.BadJob fault) takes = takes
index-untaken files now prefix g (why.BadGraph fault) takes = takes
index-untaken files now prefix g (why.BadAtoms fault) takes = go files.sources.names takes
  where
    index : List ℕ
    index = given_bytes files (index_name prefix)

    file : ℕ → List ℕ
    file = atom_files files prefix

    go : (names : Option (List (List ℕ))) → IfSome names (λ told. (form : Option AtomsFault) → long_or 0 index form ≡ Some fault) → IfSome names (λ told. atoms_fault g index file ≡ Some fault)
    go None h = tt
    go (Some told) h =
        ap (λ (o : Option AtomsFault). option_or o (option_or (atom_forms file (atoms_in index) 0) (gather_fault g index file))) (h (form_of 0 (index_fault index)))
index-untaken files now prefix g why.ReadFault takes = takes
index-untaken files now prefix g why.NoMemory takes = tt

-- it has not its form
pub index-unformed : (files : FilesState) (now : ℕ) (prefix : List ℕ) (g : DataGraph) (bytes : Vec ℕ Global) (fault : AtomFault) → TakesFile files now (index_name prefix) 0 (Ok bytes)
    → index_fault bytes.items ≡ Some fault → LooksAtAtoms files now prefix g (Err (why.BadAtoms (form_fault 0 fault)))
index-unformed files now prefix g bytes fault takes some = go files.sources.names takes.1
  where
    index : List ℕ
    index = given_bytes files (index_name prefix)

    file : ℕ → List ℕ
    file = atom_files files prefix

    go : (names : Option (List (List ℕ))) → IfSome names (λ told. bytes.items ≡ index) → IfSome names (λ told. atoms_fault g index file ≡ Some (form_fault 0 fault))
    go None h = tt
    go (Some told) h =
        let form : index_form index ≡ Some (form_fault 0 fault) =
        subst (λ (l : List ℕ). long_or 0 l (form_of 0 (index_fault l)) ≡ Some (form_fault 0 fault)) h (not-long 0 bytes.items (form_of 0 (index_fault bytes.items)) takes.0 ∙ ap (form_of 0) some) in
        ap (λ (o : Option AtomsFault). option_or o (option_or (atom_forms file (atoms_in index) 0) (gather_fault g index file))) form

-- it has
pub index-formed : (files : FilesState) (now : ℕ) (prefix : List ℕ) (bytes : Vec ℕ Global) → TakesFile files now (index_name prefix) 0 (Ok bytes) → index_fault bytes.items ≡ None
    → IsFormed files prefix bytes.items
index-formed files now prefix bytes takes none = go files.sources.names takes.1
  where
    index : List ℕ
    index = given_bytes files (index_name prefix)

    go : (names : Option (List (List ℕ))) → IfSome names (λ told. bytes.items ≡ index) → IfSome names (λ told. (bytes.items ≡ index) × (index_form index ≡ None))
    go None h = tt
    go (Some told) h = (h, subst (λ (l : List ℕ). long_or 0 l (form_of 0 (index_fault l)) ≡ None) h (not-long 0 bytes.items (form_of 0 (index_fault bytes.items)) takes.0 ∙ ap (form_of 0) none))

-- an atom was not taken
pub looks-untaken : (files : FilesState) (now : ℕ) (prefix : List ℕ) (g : DataGraph) (index : List ℕ) (atoms : ℕ) (cause : NoInput) → atoms ≡ atoms_in index → IsFormed files prefix index
    → TakesAtoms files now prefix atoms (Err cause) → LooksAtAtoms files now prefix g (Err cause)
looks-untaken files now prefix g index atoms (why.BadJob fault) count formed takes = takes
looks-untaken files now prefix g index atoms (why.BadGraph fault) count formed takes = takes
looks-untaken files now prefix g index atoms (why.BadAtoms fault) count formed takes = go files.sources.names formed takes
  where
    given : List ℕ
    given = given_bytes files (index_name prefix)

    file : ℕ → List ℕ
    file = atom_files files prefix

    go : (names : Option (List (List ℕ))) → IfSome names (λ told. (index ≡ given) × (index_form given ≡ None)) → IfSome names (λ told. atom_forms file atoms 0 ≡ Some fault)
        → IfSome names (λ told. atoms_fault g given file ≡ Some fault)
    go None formed takes = tt
    go (Some told) formed takes =
        let number : atoms ≡ atoms_in given = count ∙ ap atoms_in formed.0 in
        let forms : atom_forms file (atoms_in given) 0 ≡ Some fault = subst (λ (n : ℕ). atom_forms file n 0 ≡ Some fault) number takes in
        ap (λ (o : Option AtomsFault). option_or o (option_or (atom_forms file (atoms_in given) 0) (gather_fault g given file))) formed.1
        ∙ ap (λ (o : Option AtomsFault). option_or o (gather_fault g given file)) forms
looks-untaken files now prefix g index atoms why.ReadFault count formed takes = takes
looks-untaken files now prefix g index atoms why.NoMemory count formed takes = tt

-- all were gathered, or refused
pub looks-gathered : (files : FilesState) (prefix : List ℕ) (g : DataGraph) (index : List ℕ) (atoms : ℕ) (read : List (Vec ℕ Global)) (fault : Option AtomsFault) → atoms ≡ atoms_in index → IsFormed files prefix index
    → IfSome files.sources.names (λ told. HaveAtoms files prefix atoms read) → gather_fault g index (atom_file_at read) ≡ fault → FindsInAtoms files prefix g fault
looks-gathered files prefix g index atoms read fault count formed have gathered = go files.sources.names formed have
  where
    given : List ℕ
    given = given_bytes files (index_name prefix)

    file : ℕ → List ℕ
    file = atom_files files prefix

    all : index ≡ given → index_form given ≡ None → HaveAtoms files prefix atoms read → atoms_fault g given file ≡ fault
    all is form h =
        let number : atoms ≡ atoms_in given = count ∙ ap atoms_in is in
        let same : atoms + 0 ≡ atoms = omega arith in
        let none : atom_forms file atoms 0 ≡ None = ap (λ (k : ℕ). atom_forms file k 0) (sym same) ∙ h.forms 0 in
        let forms : atom_forms file (atoms_in given) 0 ≡ None = subst (λ (n : ℕ). atom_forms file n 0 ≡ None) number none in
        let each : (a : ℕ) → a < atoms_in index → atom_file_at read a ≡ file a = λ a inside. h.each a (subst (λ (n : ℕ). a < n) (sym count) inside) in
        let told : gather_fault g index file ≡ fault = sym (gather-same (atom_file_at read) file g index each) ∙ gathered in
        ap (λ (o : Option AtomsFault). option_or o (option_or (atom_forms file (atoms_in given) 0) (gather_fault g given file))) form
        ∙ ap (λ (o : Option AtomsFault). option_or o (gather_fault g given file)) forms
        ∙ subst (λ (l : List ℕ). gather_fault g l file ≡ fault) is told

    go : (names : Option (List (List ℕ))) → IfSome names (λ told. (index ≡ given) × (index_form given ≡ None)) → IfSome names (λ told. HaveAtoms files prefix atoms read)
        → IfSome names (λ told. atoms_fault g given file ≡ fault)
    go None formed have = tt
    go (Some told) formed have = all formed.0 formed.1 have

-- they tell how the graph is cut
pub tells-gathered : (files : FilesState) (prefix : List ℕ) (g : DataGraph) (index : List ℕ) (atoms : ℕ) (of : Vec AtomNo Global) (read : List (Vec ℕ Global)) → atoms ≡ atoms_in index → IsFormed files prefix index
    → IfSome files.sources.names (λ told. HaveAtoms files prefix atoms read) → IsAssignment g (atoms_in index) (atom_numbers of.items) → AreFiles g (atoms_in index) (atom_numbers of.items) index (atom_file_at read)
    → IsToldCut files prefix g (Told atoms of)
tells-gathered files prefix g index atoms of read count formed have assigned are =
    (subst (λ (n : ℕ). IsAssignment g n (atom_numbers of.items)) (sym count) assigned, go files.sources.names formed have)
  where
    given : List ℕ
    given = given_bytes files (index_name prefix)

    all : index ≡ given → HaveAtoms files prefix atoms read → AreFiles g atoms (atom_numbers of.items) given (atom_files files prefix)
    all is h = record {
      index_is = sym is ∙ are.index_is ∙ ap (λ (n : ℕ). index_bytes g (atom_numbers of.items) n) (sym count);
      files_are = λ a inside. sym (h.each a inside) ∙ are.files_are a (subst (λ (n : ℕ). a < n) count inside);
    }

    go : (names : Option (List (List ℕ))) → IfSome names (λ told. (index ≡ given) × (index_form given ≡ None)) → IfSome names (λ told. HaveAtoms files prefix atoms read)
        → IfSome names (λ told. AreFiles g atoms (atom_numbers of.items) given (atom_files files prefix))
    go None formed have = tt
    go (Some told) formed have = all formed.0 have

-- the index alone was read
pub reads-index : (old new : FilesState) (prefix opened : List ℕ) → opened ≡ index_name prefix → ReadsFiles (opened ∷ []) old new → ReadsFiles (atoms_names old prefix) old new
reads-index old new prefix opened is read =
    reads-more old new opened (index_name prefix) (first_names (atom_name prefix) (atoms_of_index (given_bytes old (index_name prefix)))) is read

-- the index was read, and then atoms
pub reads-atoms : (old mid new : FilesState) (prefix opened index : List ℕ) (atoms : ℕ) → opened ≡ index_name prefix → atoms ≡ atoms_in index → IsFormed old prefix index
    → ReadsFiles (opened ∷ []) old mid → AppendsNames old.sources.names mid.sources.names (opened ∷ []) → ReadsFiles (first_names (atom_name prefix) atoms) mid new → ReadsFiles (atoms_names old prefix) old new
reads-atoms old mid new prefix opened index atoms is count formed first handed then =
    reads-after old mid new _ _ (atoms_names old prefix) first then (go old.sources.names formed handed)
  where
    given : List ℕ
    given = given_bytes old (index_name prefix)

    go : (names : Option (List (List ℕ))) → IfSome names (λ told. (index ≡ given) × (index_form given ≡ None)) → AppendsNames names mid.sources.names (opened ∷ [])
        → OpensInOrder names new.sources.names (index_name prefix ∷ first_names (atom_name prefix) (atoms_of_index given))
    go None formed noted = (0, tt)
    go (Some told) formed noted =
        let number : atoms ≡ atoms_of_index given = count ∙ ap atoms_in formed.0 ∙ sym (ap (λ (o : Option AtomsFault). unless_fault o (atoms_in given)) formed.1) in
        let rest : OpensInOrder mid.sources.names new.sources.names (first_names (atom_name prefix) (atoms_of_index given)) =
        subst (λ (n : ℕ). OpensInOrder mid.sources.names new.sources.names (first_names (atom_name prefix) n)) number then.handed in
        OpensInOrder-then (Some told) mid.sources.names new.sources.names opened (index_name prefix) (first_names (atom_name prefix) (atoms_of_index given)) is noted rest

-- What holds of files that are read later holds of what their names gave.
finds-before : (old mid : FilesState) (names : List (List ℕ)) (prefix : List ℕ) (g : DataGraph) (fault : Option AtomsFault) → ChangesSources old mid → AppendsNames old.sources.names mid.sources.names names
    → FindsInAtoms mid prefix g fault → FindsInAtoms old prefix g fault
finds-before old mid names prefix g fault frame noted finds =
    let P : (List ℕ → Option (List ℕ)) → Type 0 = λ c. atoms_fault g (bytes_or_none (c (index_name prefix))) (λ b. bytes_or_none (c (atom_name prefix b))) ≡ fault in
    gives-before old.sources.names mid.sources.names names (P old.contents) noted
    (subst (λ (c : List ℕ → Option (List ℕ)). IfSome mid.sources.names (λ told. P c)) (ap (λ (s : FilesState). s.contents) frame) finds)

tells-before : (old mid : FilesState) (names : List (List ℕ)) (prefix : List ℕ) (g : DataGraph) (cut : Cut) → ChangesSources old mid → AppendsNames old.sources.names mid.sources.names names
    → IsToldCut mid prefix g cut → IsToldCut old prefix g cut
tells-before old mid names prefix g (Grown atoms) frame noted tells = tells
tells-before old mid names prefix g (Told atoms of) frame noted tells =
    let P : (List ℕ → Option (List ℕ)) → Type 0 = λ c. AreFiles g atoms (atom_numbers of.items) (bytes_or_none (c (index_name prefix))) (λ b. bytes_or_none (c (atom_name prefix b))) in (
      tells.0,
      gives-before old.sources.names mid.sources.names names (P old.contents) noted
          (subst (λ (c : List ℕ → Option (List ℕ)). IfSome mid.sources.names (λ told. P c)) (ap (λ (s : FilesState). s.contents) frame) tells.1),
    )

looks-before : (old mid : FilesState) (now : ℕ) (names : List (List ℕ)) (prefix : List ℕ) (g : DataGraph) (r : Result Cut NoInput) → ChangesSources old mid → AppendsNames old.sources.names mid.sources.names names
    → old.sources.faults ≤ mid.sources.faults → LooksAtAtoms mid now prefix g r → LooksAtAtoms old now prefix g r
looks-before old mid now names prefix g (Ok cut) frame noted later looks = (finds-before old mid names prefix g None frame noted looks.0, tells-before old mid names prefix g cut frame noted looks.1)
looks-before old mid now names prefix g (Err (why.BadJob fault)) frame noted later looks = looks
looks-before old mid now names prefix g (Err (why.BadGraph fault)) frame noted later looks = looks
looks-before old mid now names prefix g (Err (why.BadAtoms fault)) frame noted later looks = finds-before old mid names prefix g (Some fault) frame noted looks
looks-before old mid now names prefix g (Err why.ReadFault) frame noted later looks = Rose-later old.sources.faults mid.sources.faults now later looks
looks-before old mid now names prefix g (Err why.NoMemory) frame noted later looks = tt

pub named-before : (old mid : FilesState) (now : ℕ) (names : List (List ℕ)) (prefix : Option (List ℕ)) (atoms : ℕ) (g : DataGraph) (r : Result Cut NoInput) → ChangesSources old mid → AppendsNames old.sources.names mid.sources.names names
    → old.sources.faults ≤ mid.sources.faults → TakesNamedAtoms prefix atoms mid now g r → TakesNamedAtoms prefix atoms old now g r
named-before old mid now names None atoms g r frame noted later takes = takes
named-before old mid now names (Some prefix) atoms g r frame noted later takes = looks-before old mid now names prefix g r frame noted later takes

-- the names of the files of atoms, as they were before others were read
pub atoms-names-before : (old mid : FilesState) (prefix : Option (List ℕ)) → ChangesSources old mid → named_atoms mid prefix ≡ named_atoms old prefix
atoms-names-before old mid None frame = refl
atoms-names-before old mid (Some prefix) frame =
    ap (λ (c : List ℕ → Option (List ℕ)). index_name prefix ∷ first_names (atom_name prefix) (atoms_of_index (bytes_or_none (c (index_name prefix))))) (ap (λ (s : FilesState). s.contents) frame)
