use Rattle.calculus.proofs.Room.{stays_in_room}
use Rattle.calculus.proofs.Bodies.{bodies_found}
use Rattle.calculus.proofs.room_stands.Goals as goal

pub returns : goal.returns
returns c = record { room = stays_in_room; found = bodies_found }
