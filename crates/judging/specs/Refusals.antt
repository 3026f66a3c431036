-- The numbers and the words by which refusals of reasons are told; the refusal with the smaller number comes first.
use Rattle.std.specs.Prelude.{ℕ, List, codes}
use Rattle.judging.specs.declared.records.ReasonsRefusal.{ReasonsRefusal}
use Rattle.judging.specs.declared.records.ReasonsRefusal.TheVariants.{NoModel, NoReason, TooFewRecords}

-- the number by which a refusal is told to other programs
abbrev pub reasons_number : ReasonsRefusal → ℕ
reasons_number NoModel = 10
reasons_number NoReason = 11
reasons_number TooFewRecords = 12

-- the words by which a refusal is told
abbrev pub reasons_words : ReasonsRefusal → List ℕ
reasons_words NoModel = codes "it is no model"
reasons_words NoReason = codes "one of the names has no reason, and can be left out"
reasons_words TooFewRecords = codes "there are more names than records"
