-- What is said of files beside connections, one behind the other, and how a modem with such files ends.
use Rattle.std.specs.Prelude.{◌≡◌, ℕ, All, Bool, true, Result, Ok, Err, IfErr, IsOk, OnOk, List, [], ◌∷◌, ◌++◌, Option, IfSome, codes, map, refl}
use Rattle.std.specs.Fmt.{debug_str}
use Rattle.std.proofs.Common.{arith, inl, sym, subst}
use Rattle.std.proofs.lemmas.List.{append-nil}
use Rattle.std.proofs.lemmas.List.Concat.{flat_map-append}
use Rattle.serial_line.specs.LineViews.{LineView}
use Rattle.serial_line.specs.StreamLine.{StreamState, stream_view}
use Rattle.modem_data.specs.PipeSets.{PipeSet}
use Rattle.data_files.specs.Files.{FileState, FiledState, HasMoved, dlcis}
use Rattle.file_threads.specs.FileEnds.{IsWritten, SaysEnds, SaysFull, count_texts}
use Rattle.file_threads.specs.Said.{AreSaid}
use Rattle.file_threads.specs.declared.data_path.DataPath.{DataPath}
use Rattle.file_threads.specs.declared.fault.FileFault.{FileFault}
use Rattle.file_threads.proofs.FileEnds.{said_both}
use Rattle.ctl_text.specs.Writing.{IsBegun}
use Rattle.ctl_sim.specs.HeldLine.{HeldState, held_view}
use Rattle.ctl_sim.specs.DataSaying.{SaysUnopened, concerns_file, data_fault_line}
use Rattle.ctl_sim.specs.declared.data_fault.DataFault.{DataFault}
use Rattle.ctl_sim.specs.DataEnds.{EndsByDataFault, EndsFiles, HasServedOpened, SaysEndings, SaysFiles, SaysOpened, SaysUnsent, ServedTo, loss_texts, losses_texts}

-- ## What is said

-- nothing was said of connections
pub unsent_none : (a : Option (List ℕ)) → SaysUnsent a a
unsent_none a = record { losses = []; said = AreSaid.said_none a }

-- what was said of some, and behind that of others, was said of all
pub unsent_then : (a b c : Option (List ℕ)) → SaysUnsent a b → SaysUnsent b c → SaysUnsent a c
unsent_then a b c one two = record {
  losses = one.losses ++ two.losses;
  said = subst (AreSaid a c) (sym (flat_map-append loss_texts one.losses two.losses)) (said_both a b c (losses_texts one.losses) (losses_texts two.losses) one.said two.said);
}

-- and then of one more
pub unsent_more : (a b c : Option (List ℕ)) (d n : ℕ) → SaysUnsent a b → AreSaid b c (count_texts d (codes ": not all that its file gave was sent") n) → SaysUnsent a c
unsent_more a b c d n one said = unsent_then a b c one (record {
  losses = record { dlci = d; count = n } ∷ [];
  said = subst (AreSaid b c) (sym (append-nil (count_texts d (codes ": not all that its file gave was sent") n))) said;
})

-- nothing was said of files
pub endings_none : (a : Option (List ℕ)) → SaysEndings a a
endings_none a = record { ends = []; said = AreSaid.said_none a }

-- nothing was said of connections and files
pub files_none : (a : Option (List ℕ)) → SaysFiles a a
files_none a = record { noted = a; unsent_said = unsent_none a; ends_said = endings_none a }

-- nothing was said, and then the fault
pub ended_at_once : (data_paths : List DataPath) (a b : Option (List ℕ)) (why : DataFault) → IsBegun a b (data_fault_line why) → EndsByDataFault data_paths a b
ended_at_once data_paths a b why said = EndsByDataFault.ended why a a b (record {
  ended = a;
  files = files_none a;
  is_through = true;
  full = record { full = []; said = AreSaid.said_none a; none = ((λ q. refl), (λ q. refl)) };
}) said

-- the file is named
pub names_file : (why : FileFault) (a b : Option (List ℕ)) (path quoted rest : List ℕ) → concerns_file why ≡ true → IfSome (debug_str path) (λ text. quoted ≡ text)
    → IsBegun a b (codes "fault: the file " ++ quoted ++ rest ++ 10 ∷ []) → SaysUnopened path why a b
names_file why a b path quoted rest concerns is said = inl (record { concerns = concerns; names = record { quoted = quoted; quoted_is = is; rest = rest; said = said } })

-- ## The files in the end

-- what had moved, was written and handed out, and was said
pub ends_files : {Y : Type 0} (look : Y → LineView) (last : FiledState HeldState Y) (a b : Option (List ℕ)) → HasMoved held_view look last
    → All IsWritten last.files → last.line.line.taken ≡ (held_view last.line.line).sent → SaysEnds last.line.relay.pipes last.files a b → EndsFiles look last a b
ends_files look last a b moved written handed said = record { moved = moved; written = written; handed = handed; ends_said = said }

-- what was said of the files of a line was said of files
pub says_endings : {Y : Type 0} (pipes : PipeSet) (files : List (FileState Y)) (a b : Option (List ℕ)) → SaysEnds pipes files a b → SaysEndings a b
says_endings pipes files a b h = record { ends = h.ends; said = h.said }

-- ## Results

-- what holds where all went well
pub ok_then : {A E P : Type 0} (r : Result A E) → IsOk r → OnOk r P → P
ok_then (Ok x) ok h = h
ok_then (Err e) ok h = cc

-- all is through, and was served so before
pub served_opened : (data_paths : List DataPath) (ds : List ℕ) (a b c : Option (List ℕ)) (through : Bool) → ds ≡ map (λ p. p.dlci.number) data_paths
    → ServedTo (λ (last : FiledState HeldState StreamState). dlcis last.files) (EndsFiles stream_view) ds a b
    → SaysFull through b c → through ≡ true → HasServedOpened data_paths a c
served_opened data_paths ds a b c through these served full all = record {
  ended = b;
  served = subst (λ (ns : List ℕ). ServedTo (λ (last : FiledState HeldState StreamState). dlcis last.files) (EndsFiles stream_view) ns a b) these served;
  full = subst (λ (t : Bool). SaysFull t b c) all full;
}

-- where the status is 0 it was served so, and nothing more was said
pub served_well : {A F : Type 0} (contents : F → Option (List ℕ)) (r : Result A DataFault) (n : ℕ) (data_paths : List DataPath) (a : Option (List ℕ)) (between told : F)
    → OnOk r ((n ≡ 0) × (told ≡ between)) → IfErr r (λ why. (n ≡ 1) × IsBegun (contents between) (contents told) (data_fault_line why))
    → OnOk r (HasServedOpened data_paths a (contents between)) → n ≡ 0 → HasServedOpened data_paths a (contents told)
served_well contents (Ok x) n data_paths a between told well fault served zero = subst (λ (f : _). HasServedOpened data_paths a (contents f)) (sym well.1) served
served_well contents (Err why) n data_paths a between told well fault served zero = let one = fault.0 in absurd (omega (arith, one, zero))

-- where it is 1, the fault is said behind that
pub served_badly : {A F : Type 0} (contents : F → Option (List ℕ)) (r : Result A DataFault) (n : ℕ) (data_paths : List DataPath) (a : Option (List ℕ)) (between told : F)
    → OnOk r ((n ≡ 0) × (told ≡ between)) → IfErr r (λ why. (n ≡ 1) × IsBegun (contents between) (contents told) (data_fault_line why))
    → SaysOpened a (contents between) → n ≡ 1 → EndsByDataFault data_paths a (contents told)
served_badly contents (Ok x) n data_paths a between told well fault said one = let zero = well.0 in absurd (omega (arith, zero, one))
served_badly contents (Err why) n data_paths a between told well fault said one = EndsByDataFault.ended why a (contents between) (contents told) said fault.1
