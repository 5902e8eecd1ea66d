use Rattle.std.proofs.Common.{refl}
use Rattle.mari_zones.specs.Zones.{zone_columns}
use Rattle.mari_zones.proofs.BookFacts.{zone-facts}
use Rattle.mari_zones.proofs.zones.ZoneBook.read.Goals as goal

pub returns-clause-zones : goal.returns-clause-zones
returns-clause-zones c = zone-facts c.args.zones.now c.read_book.result c.read_book.ensures

pub read_book-requires-clause-columns : goal.read_book-requires-clause-columns
unfolding zone_columns
read_book-requires-clause-columns c κs = refl
