-- What reading the files of atoms answers, at each place where it ends.
use Rattle.std.proofs.Common.{◌≡◌, ◌≤◌, ◌<◌, ◌+◌, ◌-◌, ◌++◌, ℕ, suc, List, [], ◌∷◌, length, get_or, Option, None, Some, Result, Ok, Err, IfSome, cond, sym, ap, ◌∙◌, subst, ⊎_elim, arith}
use Rattle.std.specs.Option.{option_map_or, option_or}
use Rattle.std.specs.declared.alloc.Global.{Global}
use Rattle.std.specs.declared.vec.Vec.{Vec}
use Rattle.std.proofs.lemmas.Bool.{cases_lt, le-ltb, lt-ltb}
use Rattle.std.proofs.lemmas.List.{length-append, length-take}
use Rattle.std.proofs.lemmas.Option.{slice_get-get_or}
use Rattle.std.proofs.Math.ListN.{get_or-append}
use Rattle.std.proofs.Math.Seq.{get_or-append_right}
use Rattle.gl_base.specs.declared.atoms.AtomsFault.{AtomsFault}
use Rattle.gl_base.specs.declared.atoms.AtomsKind.TheVariants.{TooLong}
use Rattle.gl_base.specs.declared.limits.TheConstants.{MAX_ATOM_BYTES}
use Rattle.gl_outside.specs.FilesState.{FilesState}
use Rattle.gl_outside.specs.Frames.{ChangesSources}
use Rattle.gl_outside.specs.Names.{AppendsNames}
use Rattle.gl_outside.proofs.Fronts.{Rose-later}
use Rattle.graph_atoms.specs.atom_file.Faults.{atom_fault}
use Rattle.graph_atoms.specs.declared.atom_file.faults.AtomFault.{AtomFault}
use Rattle.graph_atoms.specs.atom_gather.Files.{atom_file_at, form_fault, form_of}
use Rattle.job_io.specs.whole_files.AtomNames.{atom_name}
use Rattle.job_io.specs.whole_files.FilesRead.{IsFront, ReadsFront}
use Rattle.job_io.specs.whole_files.FilesUsed.{OfRead}
use Rattle.job_io.specs.declared.whole_files.reading.NotRead.{NotRead}
use Rattle.job_io.specs.declared.whole_files.reading.NotRead.TheVariants as file
use Rattle.job_io.proofs.whole_files.FilesCreated.{gives-before}
use Rattle.job_io.specs.declared.job_files.inputs.NoInput.{NoInput}
use Rattle.job_io.specs.declared.job_files.inputs.NoInput.TheVariants as why
use Rattle.job_io.specs.job_files.Atoms.{atom_files, atom_form, atom_forms, bytes_or_none, given_bytes, long_or}
use Rattle.job_io.specs.job_files.Inner.AtomsRead.{HaveAtoms, OfGiven, TakesAtom, TakesAtoms, TakesFile}
use Rattle.job_io.specs.job_files.Inner.Causes.{no_input_of_file}

abbrev pub too-long : ℕ → AtomsFault
too-long number = record { file = number; kind = TooLong; at = MAX_ATOM_BYTES }

-- a file that is not too long has its form's fault
pub not-long : (number : ℕ) (bytes : List ℕ) (form : Option AtomsFault) → length bytes ≤ MAX_ATOM_BYTES → long_or number bytes form ≡ form
not-long number bytes form few = ap (λ b. cond b (Some (too-long number)) form) (le-ltb MAX_ATOM_BYTES (length bytes) few)

is-long : (number : ℕ) (bytes : List ℕ) (form : Option AtomsFault) → MAX_ATOM_BYTES < length bytes → long_or number bytes form ≡ Some (too-long number)
is-long number bytes form many = ap (λ b. cond b (Some (too-long number)) form) (lt-ltb MAX_ATOM_BYTES (length bytes) many)

-- what was read of a text that is told is what the name gives
of-read : (files : FilesState) (name : List ℕ) (P : List ℕ → Type 0) → OfRead files.sources.names (files.contents name) P → OfGiven files name P
of-read files name P h = go files.sources.names (files.contents name) h
  where
    go : (names : Option (List (List ℕ))) (given : Option (List ℕ)) → OfRead names given P → IfSome names (λ told. P (bytes_or_none given))
    go None given h = tt
    go (Some told) None h = absurd h
    go (Some told) (Some bytes) h = h

given-map : (files : FilesState) (name : List ℕ) (P Q : List ℕ → Type 0) → ((bytes : List ℕ) → P bytes → Q bytes) → OfGiven files name P → OfGiven files name Q
given-map files name P Q step h = go files.sources.names h
  where
    go : (names : Option (List (List ℕ))) → IfSome names (λ told. P (given_bytes files name)) → IfSome names (λ told. Q (given_bytes files name))
    go None h = tt
    go (Some told) h = step (given_bytes files name) h

-- the file was not read
pub file-unread : (files : FilesState) (now : ℕ) (name : List ℕ) (number most : ℕ) (cause : NotRead)
    → ReadsFront most files.sources.names (files.contents name) files.sources.faults now (Err cause) → TakesFile files now name number (Err (no_input_of_file cause))
file-unread files now name number most file.ReadFault takes = takes
file-unread files now name number most file.NoMemory takes = tt

-- it was read whole
pub file-whole : (files : FilesState) (now : ℕ) (name : List ℕ) (number : ℕ) (bytes : Vec ℕ Global)
    → ReadsFront MAX_ATOM_BYTES files.sources.names (files.contents name) files.sources.faults now (Ok bytes) → length bytes.items ≤ MAX_ATOM_BYTES → TakesFile files now name number (Ok bytes)
file-whole files now name number bytes takes few =
    (few, given-map files name (λ whole. IsFront MAX_ATOM_BYTES whole bytes.items) (λ whole. bytes.items ≡ whole) (λ whole front. front.whole few) (of-read files name (λ whole. IsFront MAX_ATOM_BYTES whole bytes.items) takes))

-- or it is too long
pub file-long : (files : FilesState) (now : ℕ) (name : List ℕ) (number : ℕ) (bytes : Vec ℕ Global)
    → ReadsFront MAX_ATOM_BYTES files.sources.names (files.contents name) files.sources.faults now (Ok bytes) → MAX_ATOM_BYTES < length bytes.items
    → TakesFile files now name number (Err (why.BadAtoms (too-long number)))
file-long files now name number bytes takes many =
    given-map files name (λ whole. IsFront MAX_ATOM_BYTES whole bytes.items) (λ whole. (form : Option AtomsFault) → long_or number whole form ≡ Some (too-long number))
    (λ whole front form.
    let fewer : length bytes.items ≤ length whole = omega (arith, ap (λ (l : List ℕ). length l) front.front, length-take (length bytes.items) whole) in
    is-long number whole form (omega (arith, many, fewer)))
    (of-read files name (λ whole. IsFront MAX_ATOM_BYTES whole bytes.items) takes)

-- the same under another name
pub file-renamed : (files : FilesState) (now : ℕ) (opened name : List ℕ) (number : ℕ) (r : Result (Vec ℕ Global) NoInput) → opened ≡ name → TakesFile files now opened number r → TakesFile files now name number r
file-renamed files now opened name number r same takes = subst (λ (n : List ℕ). TakesFile files now n number r) same takes

-- the file of an atom was not taken
pub atom-untaken : (files : FilesState) (now : ℕ) (prefix : List ℕ) (a : ℕ) (cause : NoInput) → TakesFile files now (atom_name prefix a) (a + 1) (Err cause) → TakesAtom files now prefix a (Err cause)
atom-untaken files now prefix a (why.BadJob fault) takes = takes
atom-untaken files now prefix a (why.BadGraph fault) takes = takes
atom-untaken files now prefix a (why.BadAtoms fault) takes = go files.sources.names takes
  where
    file : List ℕ
    file = atom_files files prefix a

    go : (names : Option (List (List ℕ))) → IfSome names (λ told. (form : Option AtomsFault) → long_or (a + 1) file form ≡ Some fault) → IfSome names (λ told. atom_form (atom_files files prefix) a ≡ Some fault)
    go None h = tt
    go (Some told) h = h (form_of (a + 1) (atom_fault file))
atom-untaken files now prefix a why.ReadFault takes = takes
atom-untaken files now prefix a why.NoMemory takes = tt

-- it has its form
pub atom-formed : (files : FilesState) (now : ℕ) (prefix : List ℕ) (a : ℕ) (bytes : Vec ℕ Global) → TakesFile files now (atom_name prefix a) (a + 1) (Ok bytes)
    → atom_fault bytes.items ≡ None → TakesAtom files now prefix a (Ok bytes)
atom-formed files now prefix a bytes takes none = go files.sources.names takes.1
  where
    file : List ℕ
    file = atom_files files prefix a

    go : (names : Option (List (List ℕ))) → IfSome names (λ told. bytes.items ≡ file) → IfSome names (λ told. (bytes.items ≡ file) × (atom_form (atom_files files prefix) a ≡ None))
    go None h = tt
    go (Some told) h = (
      h,
      subst (λ (l : List ℕ). long_or (a + 1) l (form_of (a + 1) (atom_fault l)) ≡ None) h
          (not-long (a + 1) bytes.items (form_of (a + 1) (atom_fault bytes.items)) takes.0 ∙ ap (form_of (a + 1)) none),
    )

-- it has not
pub atom-unformed : (files : FilesState) (now : ℕ) (prefix : List ℕ) (a : ℕ) (bytes : Vec ℕ Global) (fault : AtomFault) → TakesFile files now (atom_name prefix a) (a + 1) (Ok bytes)
    → atom_fault bytes.items ≡ Some fault → TakesAtom files now prefix a (Err (why.BadAtoms (form_fault (a + 1) fault)))
atom-unformed files now prefix a bytes fault takes some = go files.sources.names takes.1
  where
    file : List ℕ
    file = atom_files files prefix a

    go : (names : Option (List (List ℕ))) → IfSome names (λ told. bytes.items ≡ file) → IfSome names (λ told. atom_form (atom_files files prefix) a ≡ Some (form_fault (a + 1) fault))
    go None h = tt
    go (Some told) h = subst (λ (l : List ℕ). long_or (a + 1) l (form_of (a + 1) (atom_fault l)) ≡ Some (form_fault (a + 1) fault)) h
        (not-long (a + 1) bytes.items (form_of (a + 1) (atom_fault bytes.items)) takes.0 ∙ ap (form_of (a + 1)) some)

-- What holds of files that are read later holds of what their names gave.
pub atom-before : (old mid : FilesState) (now : ℕ) (names : List (List ℕ)) (prefix : List ℕ) (a : ℕ) (r : Result (Vec ℕ Global) NoInput)
    → ChangesSources old mid → AppendsNames old.sources.names mid.sources.names names → old.sources.faults ≤ mid.sources.faults → TakesAtom mid now prefix a r → TakesAtom old now prefix a r
atom-before old mid now names prefix a (Ok bytes) frame noted later takes =
    let P : (List ℕ → Option (List ℕ)) → Type 0 = λ c. (bytes.items ≡ bytes_or_none (c (atom_name prefix a))) × (atom_form (λ b. bytes_or_none (c (atom_name prefix b))) a ≡ None) in
    gives-before old.sources.names mid.sources.names names (P old.contents) noted
    (subst (λ (c : List ℕ → Option (List ℕ)). IfSome mid.sources.names (λ told. P c)) (ap (λ (s : FilesState). s.contents) frame) takes)
atom-before old mid now names prefix a (Err (why.BadJob fault)) frame noted later takes = takes
atom-before old mid now names prefix a (Err (why.BadGraph fault)) frame noted later takes = takes
atom-before old mid now names prefix a (Err (why.BadAtoms fault)) frame noted later takes =
    let P : (List ℕ → Option (List ℕ)) → Type 0 = λ c. atom_form (λ b. bytes_or_none (c (atom_name prefix b))) a ≡ Some fault in
    gives-before old.sources.names mid.sources.names names (P old.contents) noted
    (subst (λ (c : List ℕ → Option (List ℕ)). IfSome mid.sources.names (λ told. P c)) (ap (λ (s : FilesState). s.contents) frame) takes)
atom-before old mid now names prefix a (Err why.ReadFault) frame noted later takes = Rose-later old.sources.faults mid.sources.faults now later takes
atom-before old mid now names prefix a (Err why.NoMemory) frame noted later takes = tt

-- the file at a place of a list
file-at : (xs : List (Vec ℕ Global)) (k : ℕ) (d : Vec ℕ Global) → k < length xs → atom_file_at xs k ≡ (get_or xs k d).items
file-at xs k d inside = ap (λ (o : Option (Vec ℕ Global)). option_map_or (λ (f : Vec ℕ Global). f.items) o []) (slice_get-get_or xs k d inside)

-- no file was read yet
pub have-none : (files : FilesState) (prefix : List ℕ) → IfSome files.sources.names (λ told. HaveAtoms files prefix 0 [])
have-none files prefix = go files.sources.names
  where
    none : HaveAtoms files prefix 0 []
    none = record {
      each = λ a inside. absurd (omega (arith, inside));
      forms = λ n. let same : 0 + n ≡ n = omega arith in ap (λ (k : ℕ). atom_forms (atom_files files prefix) k 0) same;
    }

    go : (names : Option (List (List ℕ))) → IfSome names (λ told. HaveAtoms files prefix 0 [])
    go None = tt
    go (Some told) = none

-- one more was
pub have-more : (files : FilesState) (now : ℕ) (prefix : List ℕ) (a : ℕ) (read : List (Vec ℕ Global)) (bytes : Vec ℕ Global) → length read ≡ a
    → IfSome files.sources.names (λ told. HaveAtoms files prefix a read) → TakesAtom files now prefix a (Ok bytes) → IfSome files.sources.names (λ told. HaveAtoms files prefix (a + 1) (read ++ bytes ∷ []))
have-more files now prefix a read bytes long have takes = go files.sources.names have takes
  where
    f : ℕ → List ℕ
    f = atom_files files prefix

    longer : length (read ++ bytes ∷ []) ≡ a + 1
    longer = length-append read (bytes ∷ []) ∙ ap (λ (k : ℕ). k + 1) long

    last : get_or (read ++ bytes ∷ []) a bytes ≡ bytes
    last =
        let none : a - length read ≡ 0 = omega (arith, long) in
        get_or-append_right read (bytes ∷ []) a bytes (omega (arith, long)) ∙ ap (λ (k : ℕ). get_or (bytes ∷ []) k bytes) none

    more : HaveAtoms files prefix a read → bytes.items ≡ f a → atom_form f a ≡ None → HaveAtoms files prefix (a + 1) (read ++ bytes ∷ [])
    more h same formed = record {
      each = λ b inside.
          file-at (read ++ bytes ∷ []) b bytes (omega (arith, longer, inside))
          ∙ ⊎_elim
          (λ low. ap (λ (x : Vec ℕ Global). x.items) (get_or-append read (bytes ∷ []) bytes b (omega (arith, low, long)))
          ∙ sym (file-at read b bytes (omega (arith, low, long))) ∙ h.each b low)
          (λ high.
          let is : b ≡ a = omega (arith, high, inside) in
          ap (λ (k : ℕ). (get_or (read ++ bytes ∷ []) k bytes).items) is ∙ ap (λ (x : Vec ℕ Global). x.items) last ∙ same ∙ ap f (sym is))
          (cases_lt b a);
      forms = λ n.
          let moved : a + 1 + n ≡ a + suc n = omega arith in
          ap (λ (k : ℕ). atom_forms f k 0) moved ∙ h.forms (suc n) ∙ ap (λ (o : Option AtomsFault). option_or o (atom_forms f n (a + 1))) formed;
    }

    go : (names : Option (List (List ℕ))) → IfSome names (λ told. HaveAtoms files prefix a read)
        → IfSome names (λ told. (bytes.items ≡ f a) × (atom_form f a ≡ None)) → IfSome names (λ told. HaveAtoms files prefix (a + 1) (read ++ bytes ∷ []))
    go None have takes = tt
    go (Some told) have takes = more have takes.0 takes.1

-- the next is refused
pub atoms-refused : (files : FilesState) (now : ℕ) (prefix : List ℕ) (a atoms : ℕ) (read : List (Vec ℕ Global)) (cause : NoInput) → a < atoms
    → IfSome files.sources.names (λ told. HaveAtoms files prefix a read) → TakesAtom files now prefix a (Err cause) → TakesAtoms files now prefix atoms (Err cause)
atoms-refused files now prefix a atoms read (why.BadJob fault) inside have takes = takes
atoms-refused files now prefix a atoms read (why.BadGraph fault) inside have takes = takes
atoms-refused files now prefix a atoms read (why.BadAtoms fault) inside have takes = go files.sources.names have takes
  where
    f : ℕ → List ℕ
    f = atom_files files prefix

    go : (names : Option (List (List ℕ))) → IfSome names (λ told. HaveAtoms files prefix a read) → IfSome names (λ told. atom_form f a ≡ Some fault)
        → IfSome names (λ told. atom_forms f atoms 0 ≡ Some fault)
    go None have takes = tt
    go (Some told) have takes =
        let rest : ℕ = atoms - (a + 1) in
        let all : a + suc rest ≡ atoms = omega (arith, inside) in
        subst (λ (k : ℕ). atom_forms f k 0 ≡ Some fault) all
        (have.forms (suc rest) ∙ ap (λ (o : Option AtomsFault). option_or o (atom_forms f rest (a + 1))) takes)
atoms-refused files now prefix a atoms read why.ReadFault inside have takes = takes
atoms-refused files now prefix a atoms read why.NoMemory inside have takes = tt

-- What holds of the files of atoms that are read later holds of what their names gave.
pub atoms-before : (old mid : FilesState) (now : ℕ) (names : List (List ℕ)) (prefix : List ℕ) (atoms : ℕ) (r : Result (List (Vec ℕ Global)) NoInput)
    → ChangesSources old mid → AppendsNames old.sources.names mid.sources.names names → old.sources.faults ≤ mid.sources.faults → TakesAtoms mid now prefix atoms r → TakesAtoms old now prefix atoms r
atoms-before old mid now names prefix atoms (Ok read) frame noted later takes =
    gives-before old.sources.names mid.sources.names names (HaveAtoms old prefix atoms read) noted (go mid.sources.names takes)
  where
    f : (List ℕ → Option (List ℕ)) → ℕ → List ℕ
    f c b = bytes_or_none (c (atom_name prefix b))

    back : HaveAtoms mid prefix atoms read → HaveAtoms old prefix atoms read
    back h =
        let same = ap (λ (s : FilesState). s.contents) frame in
        record {
          each = λ a inside. h.each a inside ∙ ap (λ (c : List ℕ → Option (List ℕ)). f c a) same;
          forms = λ n. subst (λ (c : List ℕ → Option (List ℕ)). atom_forms (f c) (atoms + n) 0 ≡ atom_forms (f c) n atoms) same (h.forms n);
        }

    go : (told : Option (List (List ℕ))) → IfSome told (λ names. HaveAtoms mid prefix atoms read) → IfSome told (λ names. HaveAtoms old prefix atoms read)
    go None h = tt
    go (Some told) h = back h
atoms-before old mid now names prefix atoms (Err (why.BadJob fault)) frame noted later takes = takes
atoms-before old mid now names prefix atoms (Err (why.BadGraph fault)) frame noted later takes = takes
atoms-before old mid now names prefix atoms (Err (why.BadAtoms fault)) frame noted later takes =
    let P : (List ℕ → Option (List ℕ)) → Type 0 = λ c. atom_forms (λ b. bytes_or_none (c (atom_name prefix b))) atoms 0 ≡ Some fault in
    gives-before old.sources.names mid.sources.names names (P old.contents) noted
    (subst (λ (c : List ℕ → Option (List ℕ)). IfSome mid.sources.names (λ told. P c)) (ap (λ (s : FilesState). s.contents) frame) takes)
atoms-before old mid now names prefix atoms (Err why.ReadFault) frame noted later takes = Rose-later old.sources.faults mid.sources.faults now later takes
atoms-before old mid now names prefix atoms (Err why.NoMemory) frame noted later takes = tt
