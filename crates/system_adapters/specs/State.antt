-- The folders that the words name, and the command behind the state's.
use Rattle.std.specs.Prelude.{ℕ, List, [], ◌∷◌, Option, None, Some, codes, if◌then◌else◌}
use Rattle.std.specs.Str.{bytes_eq}

-- the words name a folder where they begin with `--state` and one more
abbrev pub folder_of : List (List ℕ) → Option (List ℕ)
folder_of (first ∷ (folder ∷ rest)) = if bytes_eq first (codes "--state") then Some folder else None
folder_of _ = None

-- what is left of them is the command
abbrev pub command_of : List (List ℕ) → List (List ℕ)
command_of (first ∷ (folder ∷ rest)) = if bytes_eq first (codes "--state") then rest else first ∷ (folder ∷ rest)
command_of words = words

-- the folder of documents is the word after `service`, or the one behind `--` there
abbrev pub unescaped : List (List ℕ) → Option (List ℕ)
unescaped [] = None
unescaped (folder ∷ []) = Some folder
unescaped (folder ∷ (next ∷ rest)) = if bytes_eq folder (codes "--") then Some next else Some folder

abbrev pub documents_of : List (List ℕ) → Option (List ℕ)
documents_of [] = None
documents_of (first ∷ rest) = if bytes_eq first (codes "service") then unescaped rest else None

-- the state of each node of a rollout stands in a folder, the words from the fourth on
abbrev pub nodes_of : List (List ℕ) → List (List ℕ)
nodes_of (first ∷ (limit ∷ (file ∷ folders))) = if bytes_eq first (codes "rollout") then folders else []
nodes_of _ = []
