-- Worked words, read by the definitions.
use Rattle.std.specs.Prelude.{◌≡◌, ◌≢◌, [], ◌∷◌, Some, codes, false, refl, true}
use Rattle.clap.proofs.OnLiterals.{clap_on_literals}
use Rattle.modemctl.specs.Shows.{all_in}
use Rattle.modemctl.specs.SimData.{names_files}
use Rattle.modemctl.specs.Words.{fault_in, is_explained, met_in, named_in, raw_in, text_in}

bench_alone : fault_in (codes "modemctl" ∷ codes "bench" ∷ []) ≡ []
unfolding clap_on_literals
bench_alone = refl

bench_with_most : fault_in (codes "modemctl" ∷ codes "bench" ∷ codes "--callers" ∷ codes "8" ∷ codes "--cut" ∷ codes "4096" ∷ []) ≡ []
unfolding clap_on_literals
bench_with_most = refl

bench_with_nine : fault_in (codes "modemctl" ∷ codes "bench" ∷ codes "--callers" ∷ codes "9" ∷ []) ≢ []
unfolding clap_on_literals
bench_with_nine e = cc

frames_alone : fault_in (codes "modemctl" ∷ codes "frames" ∷ []) ≡ []
unfolding clap_on_literals
frames_alone = refl

frames_named : named_in (codes "modemctl" ∷ codes "frames" ∷ []) ≡ Some (codes "frames")
unfolding clap_on_literals
frames_named = refl

replay_with_most : fault_in (codes "modemctl" ∷ codes "replay" ∷ codes "--n1" ∷ codes "32767" ∷ []) ≡ []
unfolding clap_on_literals
replay_with_most = refl

replay_with_less : fault_in (codes "modemctl" ∷ codes "replay" ∷ codes "--n1" ∷ codes "30" ∷ []) ≢ []
unfolding clap_on_literals
replay_with_less e = cc

no_word : fault_in (codes "modemctl" ∷ []) ≢ []
unfolding clap_on_literals
no_word e = cc

n1_of_words : text_in (met_in (codes "modemctl" ∷ codes "replay" ∷ codes "--n1" ∷ codes "2000" ∷ [])) (codes "n1") ≡ Some (codes "2000")
unfolding clap_on_literals
n1_of_words = refl

n1_by_default : text_in (met_in (codes "modemctl" ∷ codes "frames" ∷ [])) (codes "n1") ≡ Some (codes "31")
unfolding clap_on_literals
n1_by_default = refl

with_a_plus : fault_in (codes "modemctl" ∷ codes "replay" ∷ codes "--n1" ∷ codes "+31" ∷ []) ≡ []
unfolding clap_on_literals
with_a_plus = refl

text_with_a_plus : text_in (met_in (codes "modemctl" ∷ codes "replay" ∷ codes "--n1" ∷ codes "+31" ∷ [])) (codes "n1") ≡ Some (codes "+31")
unfolding clap_on_literals
text_with_a_plus = refl

drive_with_device : fault_in (codes "modemctl" ∷ codes "drive" ∷ codes "/dev/ttyUSB2" ∷ []) ≡ []
unfolding clap_on_literals
drive_with_device = refl

drive_alone : fault_in (codes "modemctl" ∷ codes "drive" ∷ []) ≢ []
unfolding clap_on_literals
drive_alone e = cc

entry_of_words : raw_in (met_in (codes "modemctl" ∷ codes "drive" ∷ codes "--entry" ∷ codes "AT+CMUX=0,0,5" ∷ codes "/dev/ttyUSB2" ∷ [])) (codes "entry") ≡ Some (codes "AT+CMUX=0,0,5")
unfolding clap_on_literals
entry_of_words = refl

explained_by_words : is_explained false (met_in (codes "modemctl" ∷ codes "bench" ∷ codes "--explain" ∷ [])) ≡ true
unfolding clap_on_literals
explained_by_words = refl

explained_nowhere : is_explained false (met_in (codes "modemctl" ∷ codes "bench" ∷ [])) ≡ false
unfolding clap_on_literals
explained_nowhere = refl

show_with_file : fault_in (codes "modemctl" ∷ codes "show" ∷ codes "--strict" ∷ codes "--data" ∷ codes "3" ∷ codes "--data" ∷ codes "5" ∷ codes "a.pcap" ∷ []) ≡ []
unfolding clap_on_literals
show_with_file = refl

show_alone : fault_in (codes "modemctl" ∷ codes "show" ∷ []) ≢ []
unfolding clap_on_literals
show_alone e = cc

show_with_0 : fault_in (codes "modemctl" ∷ codes "show" ∷ codes "--data" ∷ codes "0" ∷ codes "a.pcap" ∷ []) ≢ []
unfolding clap_on_literals
show_with_0 e = cc

data_of_words : all_in (met_in (codes "modemctl" ∷ codes "show" ∷ codes "--data" ∷ codes "3" ∷ codes "--data" ∷ codes "5" ∷ codes "a.pcap" ∷ [])) (codes "data") ≡ Some (codes "3" ∷ codes "5" ∷ [])
unfolding clap_on_literals
data_of_words = refl

raw_of_words : raw_in (met_in (codes "modemctl" ∷ codes "show" ∷ codes "--raw" ∷ codes "from" ∷ codes "to" ∷ [])) (codes "raw") ≡ Some (codes "from")
unfolding clap_on_literals
raw_of_words = refl

to_behind_raw : raw_in (met_in (codes "modemctl" ∷ codes "show" ∷ codes "--raw" ∷ codes "from" ∷ codes "to" ∷ [])) (codes "file") ≡ Some (codes "to")
unfolding clap_on_literals
to_behind_raw = refl

sim_with_data : fault_in (codes "modemctl" ∷ codes "sim" ∷ codes "--data" ∷ codes "2=/dev/ttyS0" ∷ codes "--data" ∷ codes "3=fifo" ∷ []) ≡ []
unfolding clap_on_literals
sim_with_data = refl

files_of_words : names_files (met_in (codes "modemctl" ∷ codes "sim" ∷ codes "--data" ∷ codes "2=/dev/ttyS0" ∷ [])) ≡ true
unfolding clap_on_literals
files_of_words = refl

no_files_of_words : names_files (met_in (codes "modemctl" ∷ codes "sim" ∷ [])) ≡ false
unfolding clap_on_literals
no_files_of_words = refl
