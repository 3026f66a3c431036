-- Pages: the sheet that a page is about, the text on it, and calls that add to the text.
use Rattle.std.specs.Prelude.{◌≡◌, ℕ, List, ◌++◌, OnOk, Result}
use Rattle.std.specs.Vec.{vec_items}
use Rattle.sheets.specs.declared.held.Sheet.{Sheet}
use Rattle.wording.specs.declared.pages.Page.{Page}

abbrev pub page_sheet : Page → Sheet
page_sheet p = p.sheet

abbrev pub page_text : Page → List ℕ
page_text p = vec_items p.text

-- a call that answers r adds words: where it succeeds they end the text, and the sheet stays
abbrev pub Adds : {A E : Type 0} → Result A E → Page → Page → List ℕ → Type 0
Adds r before after words = OnOk r (page_text after ≡ page_text before ++ words) × (page_sheet after ≡ page_sheet before)
