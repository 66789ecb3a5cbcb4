-- The restarts of orders, one by one.
use Rattle.std.proofs.Common.{◌≡◌, ℕ, zero, suc, ◌≤◌, ◌+◌, ◌-◌, ◌++◌, ◌∙◌, true, List, [], ◌∷◌, arith, append_assoc, drop, filter, length, length-append, take, refl, sym, ap, subst}
use Rattle.std.specs.List.{AllByRecursion, flat_map}
use Rattle.std.proofs.Math.Seq.{take-length}
use Rattle.std.proofs.lemmas.List.{length-drop}
use Rattle.gl_base.specs.declared.entries.Entry.{Entry}
use Rattle.gl_base.specs.declared.entries.Entry.TheVariants.{Go, Restart}
use Rattle.recovery.specs.restarts.Inner.Kept.{kept_restart}
use Rattle.recovery.specs.restarts.Missing.{Begins, is_restart, restarts}

pub kept_are : (order : List Entry) → flat_map kept_restart order ≡ filter is_restart order
kept_are [] = refl
kept_are (Go machine vertex ticket ∷ order) = kept_are order
kept_are (Restart ticket ∷ order) = ap (λ (es : List Entry). Restart ticket ∷ es) (kept_are order)

pub restarts_push : (n ticket : ℕ) → restarts n ticket ++ Restart ticket ∷ [] ≡ restarts (suc n) ticket
restarts_push zero ticket = refl
restarts_push (suc n) ticket = ap (λ (es : List Entry). Restart ticket ∷ es) (restarts_push n ticket)

drop_front : (front rest : List Entry) → drop (length front) (front ++ rest) ≡ rest
drop_front [] rest = refl
drop_front (entry ∷ front) rest = drop_front front rest

-- what is behind those that are known
pub lacking : (known begun missing : List Entry) (failures ticket : ℕ) → Begins known begun → missing ≡ drop (length known) begun ++ restarts failures ticket → known ++ missing ≡ begun ++ restarts failures ticket
lacking known begun missing failures ticket begins is =
    ap (λ (es : List Entry). known ++ es) (is ∙ ap (λ (es : List Entry). es ++ restarts failures ticket) (ap (drop (length known)) begins.1 ∙ drop_front known begins.0))
    ∙ sym (append_assoc known begins.0 (restarts failures ticket))
    ∙ ap (λ (es : List Entry). es ++ restarts failures ticket) (sym begins.1)

few : (n k : ℕ) → n ≤ n + k
few n k = omega arith

pub known_few : (known begun : List Entry) → Begins known begun → length known ≤ length begun
known_few known begun begins = subst (λ (n : ℕ). length known ≤ n) (sym (ap length begins.1 ∙ length-append known begins.0)) (few (length known) (length begins.0))

-- ---- each is a restart

abbrev pub AreRestarts : List Entry → Type 0
AreRestarts entries = AllByRecursion (λ entry. is_restart entry ≡ true) entries

filtered : (order : List Entry) → AreRestarts (filter is_restart order)
filtered [] = tt
filtered (Go machine vertex ticket ∷ order) = filtered order
filtered (Restart ticket ∷ order) = (refl, filtered order)

behind : (front rest : List Entry) → AreRestarts (front ++ rest) → AreRestarts rest
behind [] rest all = all
behind (entry ∷ front) rest all = behind front rest all.1

repeated : (n ticket : ℕ) → AreRestarts (restarts n ticket)
repeated zero ticket = tt
repeated (suc n) ticket = (refl, repeated n ticket)

both : (one other : List Entry) → AreRestarts one → AreRestarts other → AreRestarts (one ++ other)
both [] other are more = more
both (entry ∷ one) other are more = (are.0, both one other are.1 more)

pub restarts_alone : (known missing front : List Entry) (failures ticket : ℕ) → known ++ missing ≡ filter is_restart front ++ restarts failures ticket → AreRestarts missing
restarts_alone known missing front failures ticket is =
    behind known missing (subst AreRestarts (sym is) (both (filter is_restart front) (restarts failures ticket) (filtered front) (repeated failures ticket)))

pub rest_taken : (k : ℕ) (entries : List Entry) → take (length entries - k) (drop k entries) ≡ drop k entries
rest_taken k entries = ap (λ (n : ℕ). take n (drop k entries)) (sym (length-drop k entries)) ∙ take-length (drop k entries)
