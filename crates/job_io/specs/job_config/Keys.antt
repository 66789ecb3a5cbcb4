-- The keys that a job may have.
use Rattle.std.specs.Prelude.{◌∷◌, ◌||◌, [], Bool, List, Option, Some, None, codes, filter, not}
use Rattle.std.specs.Cmp.Lexicographic.{slice_cmp}
use Rattle.std.specs.Ordering.{match_ordering, nat_cmp}
use Rattle.std.specs.Str.{bytes_eq}
use Rattle.gl_base.specs.Texts.{Text}

-- what is computed, and of which graph
abbrev pub is_graph_key : Text → Bool
is_graph_key k = bytes_eq k (codes "vertices") || (bytes_eq k (codes "edges")
    || (bytes_eq k (codes "directed") || (bytes_eq k (codes "algorithm")
    || bytes_eq k (codes "source"))))

-- how it is run
abbrev pub is_run_key : Text → Bool
is_run_key k = bytes_eq k (codes "engine") || (bytes_eq k (codes "machines")
    || (bytes_eq k (codes "atoms") || (bytes_eq k (codes "pipeline")
    || (bytes_eq k (codes "budget") || bytes_eq k (codes "window")))))

-- where it is kept, and how it fails
abbrev pub is_file_key : Text → Bool
is_file_key k = bytes_eq k (codes "store") || (bytes_eq k (codes "atoms_at")
    || (bytes_eq k (codes "order") || bytes_eq k (codes "failures")))

abbrev pub is_known : Text → Bool
is_known k = is_graph_key k || (is_run_key k || is_file_key k)

-- the lesser in byte order
abbrev pub lesser_key : Text → Option Text → Option Text
lesser_key k None = Some k
lesser_key k (Some l) = match_ordering (slice_cmp nat_cmp k l) (Some k) (Some k) (Some l)

-- the least in byte order
abbrev pub least_key : List Text → Option Text
least_key [] = None
least_key (k ∷ ks) = lesser_key k (least_key ks)

abbrev pub is_unknown : Text → Bool
is_unknown k = not (is_known k)

abbrev pub least_unknown : List Text → Option Text
least_unknown names = least_key (filter is_unknown names)
