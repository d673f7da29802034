-- What is said of the files beside connections that carry data, in the end.
use Rattle.std.specs.Prelude.{◌≡◌, ◌==◌, ◌↔◌, ℕ, ◌+◌, ◌-◌, ◌^◌, Bool, true, false, List, [], ◌∷◌, ◌++◌, Option, codes, flat_map, length, map, min, if◌then◌else◌}
use Rattle.std.specs.Fmt.{decimal}
use Rattle.modem_data.specs.PipeSets.{PipeSet}
use Rattle.data_files.specs.Files.{FileState}
use Rattle.data_files.specs.Moves.{IsUnsent}
use Rattle.file_threads.specs.Said.{AreSaid}

-- what came of a file: it gives no more; it takes no more; so many of its octets weren't sent; so many that were read of its
-- connection it hasn't taken
pub record FileEnd : Type 0 where
  pub dlci : ℕ
  pub has_ended : Bool
  pub is_broken : Bool
  pub unsent : ℕ
  pub unwritten : ℕ

-- the same of a file whose connection took so many octets that haven't left; what neither took nor sent, with what lanes that are over
-- took and didn't send, is counted to u64::MAX
abbrev pub end_of : {Y : Type 0} → FileState Y → (kept : ℕ) → FileEnd
end_of f kept = record {
  dlci = f.dlci;
  has_ended = f.has_ended;
  is_broken = f.is_broken;
  unsent = min (length f.ungiven + kept + f.dropped) (2 ^ 64 - 1);
  unwritten = length f.unwritten;
}

-- this came of a file on whose connection these pipes carry data
pub record IsEndOf {Y : Type 0} (pipes : PipeSet) (f : FileState Y) (e : FileEnd) : Type 0 where
  pub kept : ℕ
  pub kept_are : IsUnsent pipes f.dlci kept
  pub end_is : e ≡ end_of f kept

-- this came of these files, of each in order
pub data AreEnds {Y : Type 0} (pipes : PipeSet) : (files : List (FileState Y)) → (ends : List FileEnd) → Type 0 where
  ends_none : AreEnds pipes [] []
  ends_next : (files : List (FileState Y)) (ends : List FileEnd) (f : FileState Y) (e : FileEnd) → AreEnds pipes files ends → IsEndOf pipes f e
      → AreEnds pipes (files ++ f ∷ []) (ends ++ e ∷ [])

-- `data D`, and these words
abbrev pub data_text : (dlci : ℕ) (words : List ℕ) → List ℕ
data_text dlci words = codes "data " ++ decimal dlci ++ words ++ 10 ∷ []

-- that, where it is so
abbrev pub texts_if : Bool → (dlci : ℕ) (words : List ℕ) → List (List ℕ)
texts_if true dlci words = data_text dlci words ∷ []
texts_if false dlci words = []

-- `left N octets at least`
abbrev pub octets_text : ℕ → List ℕ
octets_text n = codes "left " ++ decimal n ++ codes " octets at least" ++ 10 ∷ []

-- that behind these words, where there are any
abbrev pub count_texts : (dlci : ℕ) (words : List ℕ) (count : ℕ) → List (List ℕ)
count_texts dlci words count = if count == 0 then [] else data_text dlci words ∷ octets_text count ∷ []

-- what is said of it
abbrev pub end_texts : FileEnd → List (List ℕ)
end_texts e = texts_if e.has_ended e.dlci (codes ": its file gives no more")
    ++ texts_if e.is_broken e.dlci (codes ": its file takes no more")
    ++ count_texts e.dlci (codes ": not all that its file gave was sent") e.unsent
    ++ count_texts e.dlci (codes ": not all that came was written to its file") e.unwritten

-- of each, in order
abbrev pub ends_texts : List FileEnd → List (List ℕ)
ends_texts ends = flat_map end_texts ends

-- it was said what came of a file
pub record SaysEnd {Y : Type 0} (pipes : PipeSet) (f : FileState Y) (before after : Option (List ℕ)) : Type 0 where
  pub end : FileEnd
  pub end_is : IsEndOf pipes f end
  pub said : AreSaid before after (end_texts end)

-- it was said what came of each of these files
pub record SaysEnds {Y : Type 0} (pipes : PipeSet) (files : List (FileState Y)) (before after : Option (List ℕ)) : Type 0 where
  pub ends : List FileEnd
  pub ends_are : AreEnds pipes files ends
  pub said : AreSaid before after (ends_texts ends)

-- all that was read of its connection went to the file
abbrev pub IsWritten : {Y : Type 0} → FileState Y → Type 0
IsWritten f = f.unwritten ≡ []

-- ## Threads

-- of this connection it is said that its file isn't through with what came
abbrev pub full_text : ℕ → List ℕ
full_text dlci = data_text dlci (codes ": its file hasn't taken the last of what came, 66048 octets at most")

abbrev pub full_texts : List ℕ → List (List ℕ)
full_texts full = map full_text full

-- it was said of these connections, and of none just where all is written
pub record SaysFull (is_written : Bool) (before after : Option (List ℕ)) : Type 0 where
  pub full : List ℕ
  pub said : AreSaid before after (full_texts full)
  pub none : is_written ≡ true ↔ full ≡ []
