use Rattle.std.proofs.Common.{◌∙◌, rules}
use Rattle.cases.specs.Cases.{clauses_of}
use Rattle.explaining.proofs.Requests.{of_source}
use Rattle.explaining.proofs.listing.list_first.Goals as goal

pub list_on-complete-requires : goal.list_on-complete-requires
list_on-complete-requires g c =
    (c.open-listing.ensures.sound (clauses_of g.S.Source.clauses c.open-listing.result), search rules)

pub returns : goal.returns
returns g c =
    let f = g.S.Source.clauses in
    record {
      firsts =
          of_source f c.open-listing.result c.args.source (c.open-listing.ensures.standing ∙ c.new.ensures.standing)
          (c.open-listing.ensures.below ∙ c.new.ensures.below) c.clear.ensures.places c.list_on-complete.ensures.firsts;
      room = c.list_on-complete.ensures.room ∙ c.clear.ensures.places;
      lender = c.list_on-complete.ensures.lender ∙ c.clear.ensures.lender;
    }
