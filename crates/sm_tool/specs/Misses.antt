-- What is told of tries of which none gave what was asked.
use Rattle.std.specs.Prelude.{◌++◌, ℕ, List, [], ◌∷◌, codes, decimal}
use Rattle.sm_client.specs.declared.report.Miss.{Miss}
use Rattle.sm_client.specs.declared.report.Miss.TheVariants as miss

-- what came of a try, behind a space
abbrev pub miss_word : Miss → List ℕ
miss_word miss.Lost = codes " Lost"
miss_word miss.Cut = codes " Cut"
miss_word (miss.Unreadable at) = codes " Unreadable-" ++ decimal at
miss_word (miss.Status status) = codes " Status-" ++ decimal status

abbrev pub miss_words : List Miss → List ℕ
miss_words [] = []
miss_words (m ∷ misses) = miss_word m ++ miss_words misses

abbrev pub gave_up_line : ℕ → List Miss → List ℕ
gave_up_line time outcomes = (codes "error: GaveUp " ++ decimal time) ++ (miss_words outcomes ++ codes "\nNone of the tries gave the fragment of this time.\n")

abbrev pub no_manifest_line : List Miss → List ℕ
no_manifest_line outcomes = codes "error: NoManifest" ++ (miss_words outcomes ++ codes "\nNone of the tries gave the manifest.\n")
