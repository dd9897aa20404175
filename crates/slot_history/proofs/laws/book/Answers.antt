use Rattle.slot_history.proofs.laws.book.Goals as goal
use Rattle.slot_history.proofs.Book.{book}

pub returns : goal.returns
returns c = book
