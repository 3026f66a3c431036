use Rattle.sheets.proofs.Parts.{names-count}
use Rattle.sheets.proofs.held.Sheet.name_count.Goals as goal

pub returns : goal.returns
returns c = record { value = names-count c.args.self.now; bound = c.args.self.now.few }
