-- Proofs of the laws of `Source`, `Sink`, `Disk` and `Files` for the objects here. A law's proof may cite `specs/` alone; there is
-- nothing to be believed in this file.
use Rattle.std.proofs.Common.{◌≡◌, ◌≢◌, ◌⊎◌, inl, inr, ℕ, zero, suc, Bool, true, false, List, [], ◌∷◌, map, get_or, slice_set, Option, None, Some, refl, sym, ap, ◌∙◌, subst}
use Rattle.std.specs.Prelude.{bytes_eq, fold, if◌then◌else◌}
use Rattle.std.proofs.lemmas.List.{set-get_or}
use Rattle.std.proofs.lemmas.Slice.Eq.{bytes_eq-Decides}
use Rattle.gl_outside.specs.Disk.{DiskPast, images_now}
use Rattle.gl_outside.specs.DiskStore.{NamedDisk, past_among}
use Rattle.gl_outside.specs.FilesState.{FilesState, Written, disk_name, left_of, past_under, sink_of, written_of}
use Rattle.gl_outside.specs.Frames.{ChangesDisk, ReadsOnly, WritesOnly}
use Rattle.gl_outside.specs.Host.{HostState, files_of_host}
use Rattle.gl_outside.specs.Inner.DiskImages.{kept_image}
use Rattle.gl_outside.specs.MemDisk.{past_of}
use Rattle.gl_outside.specs.Store.{NamedBytes, StoreState, bytes_at, bytes_of, files_of_store, newer, newest_name, sink_at}

-- an element is replaced twice
set-set : {X : Type 0} (xs : List X) (i : ℕ) (x y : X) → slice_set (slice_set xs i x) i y ≡ slice_set xs i y
set-set [] i x y = refl
set-set (z ∷ xs) zero x y = refl
set-set (z ∷ xs) (suc i) x y = ap (λ (ys : List _). z ∷ ys) (set-set xs i x y)

pub ReadsOnly-refl : (file : ℕ) (files : FilesState) → ReadsOnly file files files
ReadsOnly-refl file files =
    let same = set-get_or files.sources.files file None in
    let Same : List (Option (List ℕ)) → Type 0 = λ left. files ≡ record files { sources = record files.sources { files = left } } in
    subst Same (sym same) refl

pub ReadsOnly-trans : (file again : ℕ) (a b c : FilesState) → again ≡ file → ReadsOnly file a b → ReadsOnly again b c → ReadsOnly file a c
ReadsOnly-trans file again a b c one p r =
    let q : ReadsOnly file b c = subst (λ (k : ℕ). ReadsOnly k b c) one r in
    let After : FilesState → FilesState = λ s. record s { sources = record s.sources { faults = c.sources.faults; files = slice_set s.sources.files file (left_of c file) } } in
    let With : List (Option (List ℕ)) → FilesState = λ left. record a { sources = record a.sources { faults = c.sources.faults; files = left } } in
    q ∙ ap After p ∙ ap With (set-set a.sources.files file (left_of b file) (left_of c file))

-- a write leaves the name of its file
pub name_kept : (file : ℕ) (a b : FilesState) → WritesOnly file a b → (sink_of b file).name ≡ (sink_of a file).name
name_kept file a b p = ap (λ (s : FilesState). (sink_of s file).name) p.state ∙ kept a.sinks.files file
  where
    none : Written
    none = record { name = None; bytes = None }

    kept : (sinks : List Written) (k : ℕ) → (get_or (slice_set sinks k (record (get_or sinks k none) { bytes = (sink_of b file).bytes })) k none).name ≡ (get_or sinks k none).name
    kept [] k = refl
    kept (z ∷ zs) zero = refl
    kept (z ∷ zs) (suc k) = kept zs k

pub WritesOnly-refl : (file : ℕ) (files : FilesState) → WritesOnly file files files
WritesOnly-refl file files =
    let same = set-get_or files.sinks.files file (record { name = None; bytes = None }) in
    let Same : List Written → Type 0 = λ sinks. files ≡ record files { sinks = record files.sinks { files = sinks } } in
    record { state = subst Same (sym same) refl; others = λ name apart. refl }

pub WritesOnly-trans : (file again : ℕ) (a b c : FilesState) → again ≡ file → WritesOnly file a b → WritesOnly again b c → WritesOnly file a c
WritesOnly-trans file again a b c one p r =
    let q : WritesOnly file b c = subst (λ (k : ℕ). WritesOnly k b c) one r in
    let sinks = a.sinks.files in
    let own = name_kept file a b p in
    let once : Written = record (sink_of a file) { bytes = (sink_of b file).bytes } in
    let After : FilesState → FilesState =
    λ s. record s { contents = c.contents; sinks = record s.sinks { faults = c.sinks.faults; files = slice_set s.sinks.files file (record (sink_of s file) { bytes = (sink_of c file).bytes }) } } in
    let With : List Written → FilesState = λ written. record a { contents = c.contents; sinks = record a.sinks { faults = c.sinks.faults; files = written } } in
    let Named : Option (List ℕ) → Written = λ name. record { name = name; bytes = (sink_of c file).bytes } in
    record {
      state = q.state ∙ ap After p.state ∙ ap With (set-set sinks file once (Named (set_name sinks file once)))
          ∙ ap (λ (name : Option (List ℕ)). With (slice_set sinks file (Named name))) (sym (ap (λ (s : FilesState). (sink_of s file).name) p.state) ∙ own);
      others = λ name apart. q.others name (λ is. apart (sym own ∙ is)) ∙ p.others name apart;
    }
  where
    set_name : List Written → ℕ → Written → Option (List ℕ)
    set_name sinks file once = (get_or (slice_set sinks file once) file (record { name = None; bytes = None })).name

-- each element is the same
pub constant : {X Y : Type 0} (y : Y) (xs : List X) (i : ℕ) → get_or (map (λ (x : X). y) xs) i y ≡ y
constant y [] i = refl
constant y (x ∷ xs) zero = refl
constant y (x ∷ xs) (suc i) = constant y xs i

-- no open file has a name that would give what was written to it
pub nothing_filled : {F : Type 0} (host : HostState F) (file : ℕ) (name : List ℕ) → (sink_of (files_of_host host) file).name ≡ Some name
    → (files_of_host host).contents name ≡ written_of (files_of_host host) file
nothing_filled host file name is =
    let untold : Written = record { name = None; bytes = None } in
    sym (ap (λ (w : Written). w.bytes) (constant untold host.sinks file))

pub decide : (b : Bool) → (b ≡ true) ⊎ (b ≡ false)
decide true = inl refl
decide false = inr refl

pub differs : {b : Bool} → b ≡ false → ¬ (b ≡ true)
differs isnt is = cc

pub false_from_not : (b : Bool) → ¬ (b ≡ true) → b ≡ false
false_from_not true refuted = absurd (refuted refl)
false_from_not false refuted = refl

pub no_name : {name : List ℕ} → (let o : Option (List ℕ) = None in o) ≡ Some name → ⊥
no_name e = cc

one_name : {a b : List ℕ} → Some a ≡ Some b → a ≡ b
one_name e = cc

-- a file of another name counts for nothing
pub newer-other : (f : NamedBytes) (name : List ℕ) (a : Option (List ℕ)) → f.name ≢ name → newer name a f ≡ a
newer-other f name a apart =
    let isnt = false_from_not (bytes_eq f.name name) (λ e. apart ((bytes_eq-Decides f.name name).0 e)) in
    rw isnt refl

newer-same : (f : NamedBytes) (name : List ℕ) (a : Option (List ℕ)) → f.name ≡ name → newer name a f ≡ Some f.bytes
newer-same f name a e =
    let same = (bytes_eq-Decides f.name name).1 e in
    rw same refl

-- these files give nothing under the name, and what was found before them counts, or what they give counts alone
pub found : (files : List NamedBytes) (name : List ℕ)
    → ((a : Option (List ℕ)) → fold (newer name) a files ≡ a) ⊎ ((b : List ℕ) × ((a : Option (List ℕ)) → fold (newer name) a files ≡ Some b))
found [] name = inl (λ a. refl)
found (f ∷ fs) name = elim (found fs name) [
  | inr some ↦ inr (some.0, λ a. some.1 (newer name a f))
  | inl none ↦ elim (decide (bytes_eq f.name name)) [
    | inl same ↦ inr (f.bytes, λ a. none (newer name a f) ∙ newer-same f name a ((bytes_eq-Decides f.name name).0 same))
    | inr isnt ↦ inl (λ a. none (newer name a f) ∙ newer-other f name a (λ e. differs isnt ((bytes_eq-Decides f.name name).1 e)))
  ]
]

-- the first of these files has its name where the others give nothing under it
pub newest-none : (f : NamedBytes) (fs : List NamedBytes) → bytes_of fs f.name ≡ None → newest_name (f ∷ fs) 0 ≡ Some f.name
newest-none f fs none = rw none refl

newest-some : (f : NamedBytes) (fs : List NamedBytes) (bytes : List ℕ) → bytes_of fs f.name ≡ Some bytes → newest_name (f ∷ fs) 0 ≡ None
newest-some f fs bytes some = rw some refl

-- the newest file of a name is what the name gives
newest-gives : (files : List NamedBytes) (place : ℕ) (name : List ℕ) (a : Option (List ℕ)) → newest_name files place ≡ Some name → fold (newer name) a files ≡ Some (bytes_at files place)
newest-gives [] place name a is = absurd (no_name is)
newest-gives (f ∷ fs) zero name a is = elim (found fs f.name) [
  | inr some ↦ absurd (no_name (sym (newest-some f fs some.0 (some.1 None)) ∙ is))
  | inl none ↦
      let named : f.name ≡ name = one_name (sym (newest-none f fs (none None)) ∙ is) in
      ap (λ (n : List ℕ). fold (newer name) (newer name a f) fs) named ∙ behind named ∙ newer-same f name a named
]
  where
    behind : f.name ≡ name → fold (newer name) (newer name a f) fs ≡ newer name a f
    behind named = elim (found fs name) [
      | inl none ↦ none (newer name a f)
      | inr some ↦ absurd (no_name (sym (newest-some f fs some.0 (ap (bytes_of fs) named ∙ some.1 None)) ∙ is))
    ]
newest-gives (f ∷ fs) (suc place) name a is = newest-gives fs place name (newer name a f) is

-- a name that a file has which is open for writing gives what was written to it
pub name_filled : (store : StoreState) (file : ℕ) (name : List ℕ) → (sink_of (files_of_store store) file).name ≡ Some name
    → (files_of_store store).contents name ≡ written_of (files_of_store store) file
name_filled store file name is = at store.sinks file is
  where
    none : Written
    none = record { name = None; bytes = None }

    at : (sinks : List ℕ) (k : ℕ) → (get_or (map (sink_at store.files) sinks) k none).name ≡ Some name
        → bytes_of store.files name ≡ (get_or (map (sink_at store.files) sinks) k none).bytes
    at [] k is = absurd (no_name is)
    at (place ∷ places) zero is = newest-gives store.files place name None is
    at (place ∷ places) (suc k) is = at places k is

pub ChangesDisk-refl : (file : ℕ) (files : FilesState) → ChangesDisk file files files
ChangesDisk-refl file files = record { state = refl; others = λ name apart. refl }

pub ChangesDisk-trans : (file again : ℕ) (a b c : FilesState) → again ≡ file → ChangesDisk file a b → ChangesDisk again b c → ChangesDisk file a c
ChangesDisk-trans file again a b c one p r =
    let q : ChangesDisk file b c = subst (λ (k : ℕ). ChangesDisk k b c) one r in
    let kept : disk_name b file ≡ disk_name a file = ap (λ (s : FilesState). disk_name s file) p.state in
    record {
      state = q.state ∙ ap (λ (s : FilesState). record s { pasts = c.pasts; disks = record s.disks { faults = c.disks.faults } }) p.state;
      others = λ name apart. q.others name (λ is. apart (sym kept ∙ is)) ∙ p.others name apart;
    }

-- disks in memory, as they read, are images of themselves
either_image : (b : Bool) (p q : DiskPast) → images_now p p.now.seen → images_now q q.now.seen → images_now (if b then p else q) (if b then p else q).now.seen
either_image true p q yes_p yes_q = yes_p
either_image false p q yes_p yes_q = yes_q

pub among_image : (disks : List NamedDisk) (name : List ℕ) → images_now (past_among disks name) (past_among disks name).now.seen
among_image [] name = refl
among_image (disk ∷ disks) name = either_image (bytes_eq disk.name name) (past_of disk.kept) (past_among disks name) (kept_image disk.kept) (among_image disks name)

-- an open file is one where each disk is
pub under_image : (pasts : List ℕ → DiskPast) (name : Option (List ℕ)) → ((own : List ℕ) → images_now (pasts own) (pasts own).now.seen) → images_now (past_under pasts name) (past_under pasts name).now.seen
under_image pasts None all = refl
under_image pasts (Some name) all = all name
