use Rattle.calculus.proofs.Pieces.{net_by_pieces, peak_by_pieces, pieces_found, need_by_pieces}
use Rattle.calculus.proofs.pieces_stand.Goals as goal

pub returns : goal.returns
returns c = record { net = net_by_pieces; peak = peak_by_pieces; found = pieces_found; need = need_by_pieces }
