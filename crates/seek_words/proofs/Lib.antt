mod Seeks
