-- Meanings of a registration status (27.007, 7.2).
use Rattle.std.specs.Prelude.{ℕ, List, ◌++◌, ◌==◌, if◌then◌else◌, codes, decimal}
use Rattle.at_cmds.specs.declared.registration.RegistrationStatus.{RegistrationStatus}
use Rattle.at_cmds.specs.declared.registration.RegistrationStatus.TheVariants.{NotRegistered, Home, Searching, Denied, Unknown, Roaming, Other}

-- the meaning of a registration status
abbrev pub status_of : ℕ → RegistrationStatus
status_of stat =
    if stat == 0 then NotRegistered
    else if stat == 1 then Home
    else if stat == 2 then Searching
    else if stat == 3 then Denied
    else if stat == 4 then Unknown
    else if stat == 5 then Roaming
    else Other stat

-- the printed name of a status
abbrev pub status_name : RegistrationStatus → List ℕ
status_name NotRegistered = codes "not registered"
status_name Home = codes "registered at home"
status_name Searching = codes "searching"
status_name Denied = codes "denied"
status_name Unknown = codes "unknown"
status_name Roaming = codes "registered roaming"
status_name (Other stat) = codes "status " ++ decimal stat
