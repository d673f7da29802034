-- Files by their paths, one after the other.
use Rattle.std.specs.Prelude.{◌≡◌, ℕ, ◌+◌, ◌<◌, ◌≤◌, Bool, List, [], ◌∷◌, ◌++◌, length, map, take, refl, slice_index_or}
use Rattle.std.proofs.Common.{ap, sym, ◌∙◌}
use Rattle.std.proofs.lemmas.List.{length-append, map-append, take_all, take_more}
use Rattle.serial_line.specs.StreamLine.{StreamState}
use Rattle.data_files.specs.Files.{FileState}
use Rattle.file_threads.specs.DataPaths.{opened_file, opened_files}
use Rattle.file_threads.specs.declared.data_path.DataPath.{DataPath}

-- what is made of some, with what is made of the next, is what is made of one more
pub maps_more : {A B : Type 0} (h : A → B) (xs : List A) (i : ℕ) (x : A) (ys : List B) → i < length xs → ys ≡ map h (take i xs)
    → ys ++ h (slice_index_or xs i x) ∷ [] ≡ map h (take (i + 1) xs)
maps_more h xs i x ys there e =
    ap (λ (l : List _). l ++ h (slice_index_or xs i x) ∷ []) e
    ∙ (sym (map-append h (take i xs) (slice_index_or xs i x ∷ [])) ∙ ap (λ (l : List _). map h l) (sym (take_more xs i x there)))

-- no paths yet, and no files
pub files_none : (renews : Bool) (data_paths : List DataPath) → [] ≡ opened_files renews (take 0 data_paths)
files_none renews data_paths = refl

-- the files of some paths, with that of the next, are those of one path more
pub files_more : (renews : Bool) (data_paths : List DataPath) (i : ℕ) (p : DataPath) (before after : List (FileState StreamState)) (f : FileState StreamState) → i < length data_paths
    → before ≡ opened_files renews (take i data_paths) → f ≡ opened_file renews (slice_index_or data_paths i p) → after ≡ before ++ f ∷ []
    → after ≡ opened_files renews (take (i + 1) data_paths)
files_more renews data_paths i p before after f there e is grew =
    grew ∙ (ap (λ (x : FileState StreamState). before ++ x ∷ []) is ∙ maps_more (λ (q : DataPath). opened_file renews q) data_paths i p before there e)

-- those of as many paths as there are are those of all
pub files_all : (renews : Bool) (data_paths : List DataPath) (i : ℕ) (files : List (FileState StreamState)) → length data_paths ≤ i → files ≡ opened_files renews (take i data_paths)
    → files ≡ opened_files renews data_paths
files_all renews data_paths i files most e = e ∙ ap (λ (l : List DataPath). opened_files renews l) (take_all i data_paths most)

-- with one more it is longer by one
pub one_longer : {X : Type 0} (xs ys : List X) (x : X) (n : ℕ) → ys ≡ xs ++ x ∷ [] → length xs ≡ n → length ys ≡ n + 1
one_longer xs ys x n e is = ap (λ (l : List _). length l) e ∙ (length-append xs (x ∷ []) ∙ ap (λ (k : ℕ). k + 1) is)
